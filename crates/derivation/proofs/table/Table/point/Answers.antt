use Rattle.std.proofs.Common.{◌≡◌, ◌+◌, ◌*◌, ◌<◌, ◌≤◌, [], ◌∷◌, ◌++◌, map, length, get_or, take, pos, nat_abs, is_some, Some, None, Err, sym, ap, ◌∙◌, ap₂, arith, w32, SFits}
use Rattle.std.proofs.lemmas.List.{length-set, map_more, take_all, take_more_set}
use Rattle.std.proofs.lemmas.Int.{ints, to_z-of_z}
use Rattle.std.specs.Option.{ok_or}
use Rattle.std.proofs.lemmas.Result.{err_from_is_err_and}
use Rattle.terms.specs.declared.fault.Cause.TheVariants.{NotFixed}
use Rattle.terms.proofs.Passed.{refused_case}
use Rattle.derivation.proofs.FirstPlace.{first_all, first_more, first_stop}
use Rattle.terms.proofs.Places.{at_set}
use Rattle.law.specs.Bounds.{held_from, value_of}
use Rattle.law.specs.Lines.{row_at}
use Rattle.law.specs.Spelt.{places_of}
use Rattle.derivation.specs.TableView.{held_of}
use Rattle.derivation.proofs.HeldVariables.{held_near, held_variable, length_held}
use Rattle.derivation.proofs.table.Table.point.Goals as goal

pub returns-in_err-items : goal.returns-in_err-items
returns-in_err-items c =
    let o = c.args.self.now in let n = o.size in let t = (held_of o).rows in let ps = places_of c.args.places.now in let i = c.loop-i.i in
    let p = err_from_is_err_and c.from_residual.result c.from_residual.ensures.1 in
    let none = c.in_err-items.ensures.ok_part in
    let is : Err c.in_err-items.field-0.0 ≡ Err c.at.result = c.in_err-items.ensures.value ∙ ap (λ o. ok_or o c.at.result) none in
    let same : c.in_err-items.field-0.0 ≡ c.at.result = cc in
    let e = held_variable n t ps i c.held.result c.requires.long c.loop-i-test.true c.held.ensures in
    refused_case _ _ _ c.in_err-items.field-0.0 (p.1 ∙ ap Err p.2)
    (sym c.loop-i.invariant.0 ∙ first_stop is_some None NotFixed (held_from n 0 t ps) i (omega (arith, length_held n 0 t ps n c.requires.long, c.loop-i-test.true)) (ap is_some (e ∙ none))
    ∙ ap Some (sym (same ∙ c.at.ensures)))

pub loop-i-preserved : goal.loop-i-preserved
loop-i-preserved c =
    let o = c.args.self.now in let n = o.size in let t = (held_of o).rows in let ps = places_of c.args.places.now in let i = c.loop-i.i in
    let items = c.loop-i.items in let v = c.in_ok-items.field-0 in let is = c.in_ok-items.ensures.ok_part in let held = held_from n 0 t ps in
    let e = held_variable n t ps i c.held.result c.requires.long c.loop-i-test.true c.held.ensures ∙ is in
    let near : nat_abs v ≤ 1000000 = held_near n i (row_at t (get_or ps (2 * i) 0)) (row_at t (get_or ps (2 * i + 1) 0)) v (sym c.held.ensures ∙ is) in
    let f : SFits w32 v = omega (arith, ints, near) in
    let h : i < length held = omega (arith, length_held n 0 t ps n c.requires.long, c.loop-i-test.true) in
    let l : i < length items = omega (arith, c.loop-i.invariant.3, c.loop-i-test.true, o.narrow) in (
      sym (first_more is_some None NotFixed held i h (ap is_some e)) ∙ c.loop-i.invariant.0,
      take_more_set items i _ l ∙ ap₂ (λ xs x. xs ++ x ∷ []) c.loop-i.invariant.1 (to_z-of_z w32 v f ∙ sym (ap value_of e)) ∙ sym (map_more value_of held i None h),
      at_set (λ a. nat_abs a ≤ 1000000) items i _ (pos 0) (rw (to_z-of_z w32 v f) near) c.loop-i.invariant.2,
      length-set items i _ ∙ c.loop-i.invariant.3,
    )

pub returns : goal.returns
returns c =
    let o = c.args.self.now in let n = o.size in let t = (held_of o).rows in let ps = places_of c.args.places.now in let i = c.loop-i.i in let held = held_from n 0 t ps in
    let same : n ≡ i = omega (arith, c.loop-i-test.false, c.loop-i.auto.i-end) in
    let h : length held ≤ i = omega (arith, length_held n 0 t ps n c.requires.long, c.loop-i-test.false) in
    record {
      passed = sym c.loop-i.invariant.0 ∙ first_all is_some None NotFixed held i h;
      is = ap (λ k. take k c.loop-i.items) same ∙ c.loop-i.invariant.1 ∙ ap (map value_of) (take_all i held h);
    }
