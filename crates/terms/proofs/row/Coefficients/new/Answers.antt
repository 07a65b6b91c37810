use Rattle.std.proofs.Common.{leb, [], length, Ok, sym, ap, ◌∙◌}
use mathlib.Core.Path.{subst⁻¹}
use Rattle.std.proofs.lemmas.Bool.{leb-true}
use Rattle.terms.specs.declared.fault.Cause.TheVariants.{WrongLength, OutOfRange}
use Rattle.terms.specs.Faults.{otherwise}
use Rattle.terms.specs.Stored.{padded}
use Rattle.terms.proofs.Passed.{passed, pass_one, unless_passed}
use Rattle.terms.proofs.SmallLists.{Small, copied, padded_small, padded_long}
use Rattle.terms.proofs.row.Coefficients.new.Goals as goal

pub invariant_of-result : goal.invariant_of-result
invariant_of-result c =
    let xs = c.args.numbers.now in
    let e = copied xs c.copy_from_slice.new.self c.copy_from_slice.ensures.after in
    let h = (passed _ _ _ c.in_ok-need.ensures).0 in
    let g = (passed _ _ _ c.in_ok-all_small.ensures).0 in
    let l = leb-true (length xs) 16 (unless_passed (leb (length xs) 16) WrongLength 0 h) in
    record { long = ap length e ∙ padded_long xs l; small = subst⁻¹ Small e (padded_small OutOfRange xs g) }

pub returns : goal.returns
returns c =
    let xs = c.args.numbers.now in
    let e = copied xs c.copy_from_slice.new.self c.copy_from_slice.ensures.after in
    let h = (passed _ _ _ c.in_ok-need.ensures).0 in
    let g = (passed _ _ _ c.in_ok-all_small.ensures).0 in
    ap Ok e ∙ sym (ap (λ o. otherwise o (padded xs)) (pass_one _ _ h ∙ pass_one _ [] g))
