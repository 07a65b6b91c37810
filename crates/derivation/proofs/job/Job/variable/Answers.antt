use Rattle.std.proofs.Common.{◌≡◌, ℕ, ◌<◌, ◌≤◌, ltb, [], ◌∷◌, ◌++◌, take, ℤ, pos, nat_abs, None, sym, ap, ◌∙◌, ap₂, arith, w32, to_z, of_z}
use Rattle.std.proofs.lemmas.List.{length-set, length-take-le, take_more_set}
use Rattle.std.proofs.lemmas.Int.{to_z-of_z}
use Rattle.std.proofs.lemmas.Bool.{ltb-true}
use Rattle.terms.specs.declared.fault.Cause.TheVariants.{Full, OutOfRange}
use Rattle.terms.specs.Faults.{first_fault, unless}
use Rattle.terms.specs.Limits.{million, within}
use Rattle.terms.proofs.Passed.{parts_passed, passed, unless_passed}
use Rattle.terms.proofs.Places.{at_set, changed_as}
use Rattle.terms.proofs.SmallLists.{within_near}
use Rattle.law.specs.Jobs.{variable_checks}
use Rattle.derivation.proofs.BlankRows.{rows_blank_more, rows_widened}
use Rattle.derivation.proofs.job.Job.variable.Goals as goal

-- what the checks say of a cost that passed them
record Joins (n : ℕ) (c : ℤ) : Type 0 where
  small : nat_abs c ≤ 1000000
  room : n < 16

joins : (n : ℕ) (c : ℤ) → first_fault (variable_checks n c) ≡ None → Joins n c
joins n c e =
    let p = parts_passed (unless (within million c) OutOfRange 0) _ e in
    let q = parts_passed (unless (ltb n 16) Full 0) [] p.1 in
    record { small = within_near million c (unless_passed (within million c) OutOfRange 0 p.0); room = ltb-true n 16 (unless_passed (ltb n 16) Full 0 q.0) }

pub invariant_of-self : goal.invariant_of-self
invariant_of-self c =
    let o = c.args.self.now in let z = to_z w32 (of_z w32 c.args.cost) in
    let j = joins o.size z (passed _ _ _ c.in_ok-check_variable.ensures).0 in
    ((length-set o.costs.items o.size z ∙ o.costs.long, (at_set (λ a. nat_abs a ≤ 1000000) o.costs.items o.size z (pos 0) j.small o.costs.small, tt)), (o.narrow, (o.blank, tt)))

pub invariant_of-self-2 : goal.invariant_of-self-2
invariant_of-self-2 c =
    let o = c.args.self.now in
    let j = joins o.size (to_z w32 (of_z w32 c.args.cost)) (passed _ _ _ c.in_ok-check_variable.ensures).0 in
    record { narrow = omega (arith, j.room); blank = rows_blank_more o.size o.rows.items j.room o.blank }

pub returns : goal.returns
returns c =
    let o = c.args.self.now in let n = o.size in let xs = o.costs.items in let z = to_z w32 (of_z w32 c.args.cost) in
    let e : first_fault (variable_checks n z) ≡ None = (passed _ _ _ c.in_ok-check_variable.ensures).0 in
    let t = to_z-of_z w32 c.args.cost c.ranges.cost in
    let j = joins n z e in
    let costs = take_more_set xs n z (omega (arith, j.room, o.costs.long)) ∙ ap (λ y. take n xs ++ y ∷ []) t in
    let rows = rows_widened n o.rows.items j.room o.blank in
    let l = length-take-le n xs (omega (arith, o.narrow, o.costs.long)) in
    changed_as _ _ _ _ (ap₂ (λ m y. first_fault (variable_checks m y)) l (sym t) ∙ e) (ap₂ (λ cs rs. record { costs = cs; rows = rs }) costs rows)
