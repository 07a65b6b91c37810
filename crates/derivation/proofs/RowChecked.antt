-- The checks of a row that is to join a job, part by part.
use Rattle.std.proofs.Common.{◌≡◌, ℕ, ◌+◌, ◌≤◌, true, eqb, leb, List, [], ◌∷◌, ◌++◌, map, length, ℤ, is_some, Some, None, Ok, Option, sym, refl, ap, ◌∙◌, arith}
use Rattle.std.proofs.lemmas.Bool.{eqb-true, le-leb, leb-true}
use Rattle.terms.specs.declared.fault.Cause.TheVariants.{Full, OutOfRange, UnknownRelation, WrongLength}
use Rattle.terms.specs.declared.fault.Fault.{Fault}
use Rattle.terms.specs.Faults.{first_fault, first_unless, unless}
use Rattle.terms.specs.Limits.{million, right_limit, row_limits, within}
use Rattle.terms.specs.Rows.{Row}
use Rattle.terms.proofs.Passed.{clash, parts_passed, pass_list, pass_one, stop_list, unless_passed}
use Rattle.law.specs.declared.relation.Relation.{Relation}
use Rattle.law.specs.declared.relation.Relation.TheVariants.{AtMost, AtLeast, Equal}
use Rattle.law.specs.Jobs.{Job, related, relation_of, rewritten, row_checks, rows_of, size}

pub named : (o : Option Relation) (relation : Relation) → Ok relation ≡ related o → o ≡ Some relation
named None relation e = clash (cc)
named (Some other) relation e = cc

module _ (j : Job) (cs : List ℤ) (letter : ℕ) (right : ℤ) (narrow : size j ≤ 16) (long : eqb (length cs) (size j) ≡ true) where
  -- the two checks of a row's numbers, and those that follow
  abbrev numbers : List (Option Fault)
  numbers = first_unless OutOfRange 0 (map (within million) cs) ∷ unless (within right_limit right) OutOfRange (length cs) ∷ []

  abbrev others : List (Option Fault)
  others = unless (is_some (relation_of letter)) UnknownRelation 0 ∷ unless (leb (length j.rows + length (rows_of (relation_of letter) (record { coefficients = cs; right = right }))) 64) Full 0 ∷ []

  first_passes : first_fault (row_checks j cs letter right) ≡ first_fault (numbers ++ others)
  first_passes = pass_one (unless (eqb (length cs) (size j)) WrongLength 0) (numbers ++ others) (ap (λ b. unless b WrongLength 0) long)

  limits_are : first_fault (row_limits cs right) ≡ first_fault numbers
  limits_are = pass_one (unless (leb (length cs) 16) WrongLength 0) numbers (ap (λ b. unless b WrongLength 0) (le-leb (length cs) 16 (omega (arith, eqb-true _ _ long))))

  pub numbers_stop : (f : Fault) → first_fault (row_limits cs right) ≡ Some f → first_fault (row_checks j cs letter right) ≡ Some f
  numbers_stop f e = first_passes ∙ stop_list numbers others f (sym limits_are ∙ e)

  pub numbers_pass : first_fault (row_limits cs right) ≡ None → first_fault (row_checks j cs letter right) ≡ first_fault others
  numbers_pass e = first_passes ∙ pass_list numbers others (sym limits_are ∙ e)

  -- with the relation known, only the room is left
  pub room_left : (relation : Relation) → first_fault (row_limits cs right) ≡ None → relation_of letter ≡ Some relation →
      first_fault (row_checks j cs letter right) ≡ first_fault (unless (leb (length j.rows + length (rewritten relation (record { coefficients = cs; right = right }))) 64) Full 0 ∷ [])
  room_left relation e r = numbers_pass e ∙ ap (λ o. first_fault (unless (is_some o) UnknownRelation 0 ∷ unless (leb (length j.rows + length (rows_of o (record { coefficients = cs; right = right }))) 64) Full 0 ∷ [])) r

-- what the checks say of a row that passed them
pub row_fits : (j : Job) (cs : List ℤ) (letter : ℕ) (right : ℤ) → first_fault (row_checks j cs letter right) ≡ None →
    (length cs ≡ size j) × (length j.rows + length (rows_of (relation_of letter) (record { coefficients = cs; right = right })) ≤ 64)
row_fits j cs letter right e =
    let a = parts_passed (unless (eqb (length cs) (size j)) WrongLength 0) _ e in
    let b = parts_passed (first_unless OutOfRange 0 (map (within million) cs)) _ a.1 in
    let c = parts_passed (unless (within right_limit right) OutOfRange (length cs)) _ b.1 in
    let d = parts_passed (unless (is_some (relation_of letter)) UnknownRelation 0) _ c.1 in
    let f = parts_passed (unless (leb (length j.rows + length (rows_of (relation_of letter) (record { coefficients = cs; right = right }))) 64) Full 0) [] d.1 in (
      eqb-true (length cs) (size j) (unless_passed (eqb (length cs) (size j)) WrongLength 0 a.0),
      leb-true _ 64 (unless_passed (leb (length j.rows + length (rows_of (relation_of letter) (record { coefficients = cs; right = right }))) 64) Full 0 f.0),
    )

-- how many rows a relation makes does not hang on the row
pub rewritten_long : (relation : Relation) (a b : Row) → length (rewritten relation a) ≡ length (rewritten relation b)
rewritten_long AtMost a b = refl
rewritten_long AtLeast a b = refl
rewritten_long Equal a b = refl
