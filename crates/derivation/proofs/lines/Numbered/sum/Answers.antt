use Rattle.std.proofs.Common.{◌≡◌, ◌<◌, ◌≤◌, length, get_or, replicate, pos, ◌+ℤ◌, ◌*ℤ◌, sym, ap, ◌∙◌, arith}
use mathlib.Core.Path.{subst⁻¹}
use Rattle.std.proofs.lemmas.List.{get_or-map, get_or-take, length-map}
use Rattle.terms.specs.Rows.{Row}
use Rattle.terms.specs.Stored.{row_of}
use Rattle.law.specs.declared.premise.Premise.{Premise}
use Rattle.law.specs.Spelt.{line_of, premise_in, premises_of}
use Rattle.derivation.specs.Sums.{no_premise, table_of}
use Rattle.derivation.proofs.LinesMade.{numbered}
use Rattle.derivation.proofs.SumsGrown.{Summing, coefficient_fits, limited_there, right_fits, row_there, rows_wide, summing_all, summing_more, summing_none}
use Rattle.derivation.proofs.lines.Numbered.sum.Goals as goal

pub loop-item-init : goal.loop-item-init
loop-item-init c n h =
    let t = table_of n c.args.rows.now in let ps = premises_of c.args.self.now.line.premises in
    subst⁻¹ (λ cs. Summing n t ps 0 cs c.default-sums.result.right) c.default-sums.ensures.0
    (subst⁻¹ (λ z. Summing n t ps 0 (replicate 16 (pos 0)) z) c.default-sums.ensures.1 (summing_none n t ps))

pub bounds-rows-from : goal.bounds-rows-from
bounds-rows-from c =
    let items = c.args.self.now.line.premises.items.now in let i = c.loop-item.item-index in let p = c.from-premise.result in
    let lt : i < length (premises_of c.args.self.now.line.premises) = omega (arith, length-map items premise_in, c.loop-item-test.true) in
    let is : p ≡ get_or (premises_of c.args.self.now.line.premises) i no_premise = c.from-premise.ensures ∙ sym (get_or-map premise_in items i _ no_premise c.loop-item-test.true) in
    omega (arith, c.from.ensures, ap (λ (q : Premise). q.place) is, c.requires i lt)

pub add-requires : goal.add-requires
add-requires c =
    let items = c.args.self.now.line.premises.items.now in let i = c.loop-item.item-index in let p = c.from-premise.result in
    let r = c.index-rows-from.result in
    let m = numbered (line_of c.args.self.now.line) c.args.self.now.numbers in
    let is : p ≡ get_or (premises_of c.args.self.now.line.premises) i no_premise = c.from-premise.ensures ∙ sym (get_or-map premise_in items i _ no_premise c.loop-item-test.true) in
    let times = subst⁻¹ (λ (q : Premise). q.multiplier ≤ 10000) is (m.multipliers i) in
    let few : i < 32 = omega (arith, m.few, length-map items premise_in, c.loop-item-test.true) in
    let s = c.loop-item.invariant 16 (omega arith) in
    record {
      fits = λ k h. coefficient_fits (get_or c.loop-item.sums.coefficients k (pos 0)) (get_or r.coefficients.items k (pos 0)) p.multiplier i (s.small k h) few times (r.coefficients.small k);
      right_fits = right_fits s r.right p.multiplier few times r.near;
    }

pub loop-item-preserved : goal.loop-item-preserved
loop-item-preserved c n h =
    let items = c.args.self.now.line.premises.items.now in let i = c.loop-item.item-index in let p = c.from-premise.result in
    let rows = c.args.rows.now in let ps = premises_of c.args.self.now.line.premises in let r = c.index-rows-from.result in
    let lt : i < length ps = omega (arith, length-map items premise_in, c.loop-item-test.true) in
    let m = numbered (line_of c.args.self.now.line) c.args.self.now.numbers in
    let is : p ≡ get_or ps i no_premise = c.from-premise.ensures ∙ sym (get_or-map premise_in items i _ no_premise c.loop-item-test.true) in
    let times = subst⁻¹ (λ (q : Premise). q.multiplier ≤ 10000) is (m.multipliers i) in
    let there : p.place < length rows = omega (arith, ap (λ (q : Premise). q.place) is, c.requires i lt) in
    let row_is = row_there n rows p.place r there ∙ ap (row_of n) (sym (c.index-rows-from.is ∙ ap (λ k. get_or rows k r) c.from.ensures)) in
    summing_more n (table_of n rows) ps i c.loop-item.sums.coefficients c.add.new.self.coefficients c.loop-item.sums.right c.add.new.self.right p lt is times (limited_there n rows p.place r there) (c.loop-item.invariant n h)
    (λ k l. c.add.ensures.coefficients k (omega arith) ∙ ap (λ z. get_or c.loop-item.sums.coefficients k (pos 0) +ℤ pos p.multiplier *ℤ z) (sym (ap (λ (w : Row). get_or w.coefficients k (pos 0)) row_is ∙ get_or-take n r.coefficients.items k (pos 0) l)))
    c.add.new.self.long
    (c.add.ensures.right ∙ ap (λ z. c.loop-item.sums.right +ℤ pos p.multiplier *ℤ z) (sym (ap (λ (w : Row). w.right) row_is)))

pub returns : goal.returns
returns c n h =
    let items = c.args.self.now.line.premises.items.now in let rows = c.args.rows.now in
    let m = numbered (line_of c.args.self.now.line) c.args.self.now.numbers in
    summing_all n (table_of n rows) (premises_of c.args.self.now.line.premises) c.loop-item.item-index c.loop-item.sums.coefficients h m.some (omega (arith, length-map items premise_in, c.loop-item-test.false))
    (rows_wide n rows h) (λ k l. let low = c.requires k l in omega (arith, low, length-map rows (row_of n))) (c.loop-item.invariant n h)
