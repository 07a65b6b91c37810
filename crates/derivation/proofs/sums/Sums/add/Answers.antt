use Rattle.std.proofs.Common.{◌<◌, ◌≢◌, length, get_or, pos, arith, get_or-set_other, get_or-set_same, w32, w64, SFits, rules, below_more}
use Rattle.derivation.proofs.SumsGrown.{added_fits, added_is, widened}
use Rattle.derivation.proofs.sums.Sums.add.Goals as goal

pub overflow_add-self : goal.overflow_add-self
overflow_add-self c =
    let i = c.loop-i.i in let r = get_or c.args.row.now.coefficients.items i (pos 0) in
    let fz : SFits w64 (get_or c.loop-i.self.coefficients i (pos 0)) = search rules in
    let fr : SFits w32 r = search rules in
    added_fits (get_or c.args.self.now.coefficients i (pos 0)) r c.args.multiplier fz (c.loop-i.invariant.1 i (omega arith)) (widened r fr) (search rules) (c.requires.fits i c.loop-i-test.true)

pub loop-i-preserved : goal.loop-i-preserved
loop-i-preserved c =
    let i = c.loop-i.i in let r = get_or c.args.row.now.coefficients.items i (pos 0) in
    let fz : SFits w64 (get_or c.loop-i.self.coefficients i (pos 0)) = search rules in
    let fr : SFits w32 r = search rules in
    let lt : i < length c.loop-i.self.coefficients = omega (arith, c.loop-i-test.true, c.loop-i.self.long) in
    let e = added_is (get_or c.args.self.now.coefficients i (pos 0)) r c.args.multiplier fz (c.loop-i.invariant.1 i (omega arith)) (widened r fr) (search rules) (c.requires.fits i c.loop-i-test.true) in (
      below_more _ _ (λ k h. let ne : k ≢ i = omega arith in rw get_or-set_other (c.loop-i.invariant.0 k h)) (rw get_or-set_same e),
      (λ k h. let ne : k ≢ i = omega arith in rw get_or-set_other (c.loop-i.invariant.1 k (omega arith))),
      c.loop-i.invariant.2,
    )
