-- The checks of a branch, part by part.
use Rattle.std.proofs.Common.{◌≡◌, ℕ, ◌+◌, ◌<◌, ◌≤◌, Bool, true, false, ◌&&◌, eqb, leb, List, [], ◌∷◌, ◌++◌, map, length, ℤ, pos, ◌-ℤ◌, neg_ℤ, nat_abs, Some, None, Option, sym, refl, ap, ◌∙◌, arith}
use lib.Signed.{le_z, lt_z}
use Rattle.std.proofs.lemmas.Int.{ints}
use Rattle.std.proofs.lemmas.Bool.{and_left, and_parts, eqb-true, le-leb, leb-true}
use Rattle.terms.specs.declared.fault.Cause.{Cause}
use Rattle.terms.specs.declared.fault.Cause.TheVariants.{Full, OutOfRange, WrongLength}
use Rattle.terms.specs.declared.fault.Fault.{Fault}
use Rattle.terms.specs.Faults.{first_fault, first_unless, unless}
use Rattle.terms.specs.Limits.{million, right_limit, row_limits, within}
use Rattle.terms.specs.Rows.{Row}
use Rattle.terms.proofs.Integers.{within_from}
use Rattle.terms.proofs.Passed.{parts_passed, pass_list, pass_one, stop_list, unless_passed}
use Rattle.terms.proofs.SmallLists.{within_near}
use Rattle.law.specs.Lines.{room_check}
use Rattle.law.specs.Steps.{branch_checks}

-- two tests with one fault are one test after the other
both_tests : (a b : Bool) (cause : Cause) (spot : ℕ) (cs : List (Option Fault)) → first_fault (unless (a && b) cause spot ∷ cs) ≡ first_fault (unless a cause spot ∷ unless b cause spot ∷ cs)
both_tests true b cause spot cs = refl
both_tests false b cause spot cs = refl

-- the opposite of a right side within the limits keeps them unless it is the greatest
opposite-within : (z : ℤ) → within right_limit z ≡ true → within right_limit (neg_ℤ z -ℤ pos 1) ≡ lt_z z (pos right_limit)
opposite-within z w = let n = within_near right_limit z w in by (lt_z z (pos right_limit)) refl n
  where
    by : (b : Bool) → lt_z z (pos right_limit) ≡ b → nat_abs z ≤ right_limit → within right_limit (neg_ℤ z -ℤ pos 1) ≡ b
    by true e n = within_from right_limit (neg_ℤ z -ℤ pos 1) (omega (arith, ints))
    by false e n = and_left (le_z (neg_ℤ (pos right_limit)) (neg_ℤ z -ℤ pos 1)) (le_z (neg_ℤ z -ℤ pos 1) (pos right_limit)) (sym (omega (arith, ints)))

module _ (n : ℕ) (t : List Row) (cs : List ℤ) (right : ℤ) (narrow : n ≤ 16) (long : eqb (length cs) n ≡ true) where
  abbrev row : Row
  row = record { coefficients = cs; right = right }

  abbrev numbers : List (Option Fault)
  numbers = first_unless OutOfRange 0 (map (within million) cs) ∷ unless (within right_limit right) OutOfRange (length cs) ∷ []

  abbrev opposed : Option Fault
  opposed = unless (within right_limit (neg_ℤ right -ℤ pos 1)) OutOfRange (length cs)

  -- the checks as the code takes them
  in-turn : first_fault (branch_checks n t row) ≡ first_fault (numbers ++ opposed ∷ room_check t 1 ∷ [])
  in-turn =
      pass_one (unless (eqb (length cs) n) WrongLength 0) _ (ap (λ b. unless b WrongLength 0) long)
      ∙ after_first (first_unless OutOfRange 0 (map (within million) cs)) _ _ (both_tests (within right_limit right) (within right_limit (neg_ℤ right -ℤ pos 1)) OutOfRange (length cs) (room_check t 1 ∷ []))
    where
      after_first : (o : Option Fault) (xs ys : List (Option Fault)) → first_fault xs ≡ first_fault ys → first_fault (o ∷ xs) ≡ first_fault (o ∷ ys)
      after_first None xs ys e = e
      after_first (Some f) xs ys e = refl

  limits_are : first_fault (row_limits cs right) ≡ first_fault numbers
  limits_are = pass_one (unless (leb (length cs) 16) WrongLength 0) numbers (ap (λ b. unless b WrongLength 0) (le-leb (length cs) 16 (omega (arith, eqb-true _ _ long))))

  pub limits_stop : (f : Fault) → first_fault (row_limits cs right) ≡ Some f → first_fault (branch_checks n t row) ≡ Some f
  limits_stop f e = in-turn ∙ stop_list numbers (opposed ∷ room_check t 1 ∷ []) f (sym limits_are ∙ e)

  -- the right side is within its limits, so only its opposite and the room are left
  pub limits_pass : first_fault (row_limits cs right) ≡ None → first_fault (branch_checks n t row) ≡ first_fault (unless (lt_z right (pos right_limit)) OutOfRange (length cs) ∷ room_check t 1 ∷ [])
  limits_pass e =
      let p = parts_passed (first_unless OutOfRange 0 (map (within million) cs)) _ (sym limits_are ∙ e) in
      let q = parts_passed (unless (within right_limit right) OutOfRange (length cs)) [] p.1 in
      in-turn ∙ pass_list numbers (opposed ∷ room_check t 1 ∷ []) (sym limits_are ∙ e)
      ∙ ap (λ b. first_fault (unless b OutOfRange (length cs) ∷ room_check t 1 ∷ [])) (opposite-within right (unless_passed (within right_limit right) OutOfRange (length cs) q.0))

-- what the checks say of a row that passed them
pub branch_fits : (n : ℕ) (t : List Row) (cs : List ℤ) (right : ℤ) → n ≤ 16 → first_fault (branch_checks n t (record { coefficients = cs; right = right })) ≡ None → (length cs ≡ n) × (lt_z right (pos right_limit) ≡ true) × (length t < 512)
branch_fits n t cs right narrow e =
    let a = parts_passed (unless (eqb (length cs) n) WrongLength 0) _ e in
    let b = parts_passed (first_unless OutOfRange 0 (map (within million) cs)) _ a.1 in
    let c = parts_passed (unless (within right_limit right && within right_limit (neg_ℤ right -ℤ pos 1)) OutOfRange (length cs)) _ b.1 in
    let d = parts_passed (room_check t 1) [] c.1 in
    let w = and_parts (within right_limit right) (within right_limit (neg_ℤ right -ℤ pos 1)) (unless_passed _ OutOfRange (length cs) c.0) in (
      eqb-true (length cs) n (unless_passed (eqb (length cs) n) WrongLength 0 a.0),
      sym (opposite-within right w.0) ∙ w.1,
      omega (arith, leb-true (length t + 1) 512 (unless_passed (leb (length t + 1) 512) Full 0 d.0)),
    )
