use Rattle.std.proofs.Common.{◌≡◌, ◌≤◌, cond, get_or, take, length, pos, nat_abs, Some, None, Err, sym, ap, ◌∙◌, arith, w32, w64, SFits, to_z, of_z, rules}
use mathlib.Core.Path.{subst⁻¹}
use Rattle.std.proofs.lemmas.List.{length-set, take_all}
use Rattle.std.proofs.lemmas.Int.{to_z-of_z}
use Rattle.std.proofs.lemmas.Result.{err_from_is_err_and}
use Rattle.terms.specs.declared.fault.Cause.TheVariants.{RowTooLarge}
use Rattle.terms.specs.Limits.{million, within}
use Rattle.terms.proofs.Passed.{refused_case}
use Rattle.terms.proofs.Places.{at_set}
use Rattle.terms.proofs.SmallLists.{within_near}
use Rattle.law.specs.Lines.{floor}
use Rattle.derivation.specs.Sums.{quotients}
use Rattle.derivation.proofs.DividedSums.{first_all, first_more, first_stop, kept_at, quotient_at, quotient_written, quotients_long, refused_at}
use Rattle.derivation.proofs.lines.Numbered.divide_all.Goals as goal

pub returns-in_err-items : goal.returns-in_err-items
returns-in_err-items c =
    let xs = c.args.sums.now in let i = c.loop-i.i in let d = c.args.self.now.line.divisor in
    let z = to_z w64 (of_z w64 c.div_euclid.result) in
    let q : z ≡ floor (get_or xs i (pos 0)) d = search rules in
    let o : c.coefficient-quotient.result ≡ cond (within million z) (Some z) None = search rules in
    let r = refused_at z c.coefficient-quotient.result c.ok_or.result c.at.result o c.ok_or.ensures.value c.in_err-items.field-0.0 c.in_err-items.was in
    let fails = ap (within million) (quotient_at xs d i c.loop-i-test.true ∙ sym q) ∙ r.0 in
    let p = err_from_is_err_and c.from_residual.result c.from_residual.ensures.1 in
    refused_case _ _ _ c.in_err-items.field-0.0 (p.1 ∙ ap Err p.2)
    (sym c.loop-i.invariant.0 ∙ first_stop (within million) (pos 0) RowTooLarge (quotients d xs) i (omega (arith, quotients_long xs d i, c.loop-i-test.true)) fails ∙ sym (ap Some (r.1 ∙ c.at.ensures)))

pub loop-i-preserved : goal.loop-i-preserved
loop-i-preserved c =
    let xs = c.args.sums.now in let i = c.loop-i.i in let d = c.args.self.now.line.divisor in let items = c.loop-i.items in
    let z = to_z w64 (of_z w64 c.div_euclid.result) in
    let q : z ≡ floor (get_or xs i (pos 0)) d = search rules in
    let o : c.coefficient-quotient.result ≡ cond (within million z) (Some z) None = search rules in
    let r = kept_at z c.coefficient-quotient.result c.ok_or.result c.at.result o c.ok_or.ensures.value c.in_ok-items.field-0 c.in_ok-items.was in
    let h : SFits w32 c.in_ok-items.field-0 = search rules in
    let v = to_z-of_z w32 c.in_ok-items.field-0 h ∙ r.1 in
    let small : nat_abs z ≤ 1000000 = within_near million z r.0 in
    let passes = ap (within million) (quotient_at xs d i c.loop-i-test.true ∙ sym q) ∙ r.0 in
    let long : length xs ≤ length items = omega (arith, c.requires, c.loop-i.invariant.3) in (
      sym (first_more (within million) (pos 0) RowTooLarge (quotients d xs) i (omega (arith, quotients_long xs d i, c.loop-i-test.true)) passes) ∙ c.loop-i.invariant.0,
      quotient_written xs d i items (to_z w32 (of_z w32 c.in_ok-items.field-0)) c.loop-i-test.true long (v ∙ q) c.loop-i.invariant.1,
      at_set (λ y. nat_abs y ≤ 1000000) items i (to_z w32 (of_z w32 c.in_ok-items.field-0)) (pos 0) (subst⁻¹ (λ y. nat_abs y ≤ 1000000) v small) c.loop-i.invariant.2,
      length-set items i _ ∙ c.loop-i.invariant.3,
    )

pub returns : goal.returns
returns c =
    let xs = c.args.sums.now in let i = c.loop-i.i in let d = c.args.self.now.line.divisor in
    record {
      passed = sym c.loop-i.invariant.0 ∙ first_all (within million) (pos 0) RowTooLarge (quotients d xs) i (omega (arith, quotients_long xs d i, c.loop-i-test.false));
      is =
          let same : length xs ≡ i = omega (arith, c.loop-i-test.false, c.loop-i.auto.i-end) in
          ap (λ k. take k c.loop-i.items) same ∙ c.loop-i.invariant.1 ∙ take_all i (quotients d xs) (omega (arith, quotients_long xs d i, same));
    }
