-- What a theory means, the law that it owes, and its answers.
use Rattle.std.specs.Prelude.{◌≡◌, ℕ, zero, suc, ◌≤◌, Bool, true, cond, List, [], ◌∷◌, length, ℤ, Some, None, Ok, Err, Option, Result, slice_index_or}
use Rattle.std.specs.List.{AllByRecursion}
use Rattle.terms.specs.declared.difference.Difference.{Difference}
use Rattle.terms.specs.declared.fault.Cause.TheVariants.{NoRule}
use Rattle.terms.specs.declared.fault.Fault.{Fault}
use Rattle.terms.specs.Faults.{fault}
use Rattle.terms.specs.Limits.{right_limit, within}
use Rattle.terms.specs.Rows.{Holds, Plan}

-- from these premises to this conclusion
pub record Rule : Type 0 where
  pub premises : List Difference
  pub conclusion : Difference

abbrev pub difference : ℕ → ℕ → ℤ → Difference
difference a b k = record { first = a; second = b; most = k }

-- the two elements of a list at two places, where the test passes
abbrev pub picked : {A : Type 0} → Bool → List A → ℕ → ℕ → A → Option (A × A)
picked test xs i k d = cond test (Some (slice_index_or xs i d, slice_index_or xs k d)) None

-- the rule between two parts, where two are picked
abbrev pub rule_between : {A : Type 0} → (A → A → Rule) → Option (A × A) → Option Rule
rule_between between None = None
rule_between between (Some q) = Some (between q.0 q.1)

-- which plans are admitted, and the rule of each clue, if it has one
pub record Meaning (C : Type 0) : Type 0 where
  pub admits : Plan → Bool
  pub rule : C → Option Rule

-- two places from 0 to 16, and a bound within the limits of a right side
pub record Proper (d : Difference) : Type 0 where
  pub first_place : d.first ≤ 16
  pub second_place : d.second ≤ 16
  pub limited : within right_limit d.most ≡ true

-- at most four premises; an admitted plan that meets them all meets the conclusion
pub record Rightful (admits : Plan → Bool) (r : Rule) : Type 0 where
  pub few : length r.premises ≤ 4
  pub proper : AllByRecursion Proper r.premises
  pub proper_end : Proper r.conclusion
  pub holds : (x : Plan) → admits x ≡ true → AllByRecursion (Holds x) r.premises → Holds x r.conclusion

abbrev pub IfAny : (Plan → Bool) → Option Rule → Type 0
IfAny admits None = Unit {0}
IfAny admits (Some r) = Rightful admits r

-- the law: each clue's rule, if it has one, is rightful
abbrev pub Lawful : {C : Type 0} → Meaning C → Type 0
Lawful {C} m = (clue : C) → IfAny m.admits (m.rule clue)

abbrev pub rule_of : {C : Type 0} → (C → Option Rule) → Option C → Option Rule
rule_of rule None = None
rule_of rule (Some clue) = rule clue

-- the same meaning, of clues as bytes: those that spell no clue have no rule
abbrev pub on_bytes : {C : Type 0} → (List ℕ → Option C) → Meaning C → Meaning (List ℕ)
on_bytes reads m = record { admits = m.admits; rule = λ bytes. rule_of m.rule (reads bytes) }

-- ---- the answers to questions: 8 where there is no rule, or no such premise
abbrev pub no_rule : Fault
no_rule = fault NoRule 0

abbrev pub clued : {C : Type 0} → Option C → Result C Fault
clued None = Err no_rule
clued (Some clue) = Ok clue

abbrev pub counted : Option Rule → Result ℕ Fault
counted None = Err no_rule
counted (Some r) = Ok (length r.premises)

abbrev pub difference_at : List Difference → ℕ → Result Difference Fault
difference_at [] i = Err no_rule
difference_at (d ∷ ds) zero = Ok d
difference_at (d ∷ ds) (suc i) = difference_at ds i

abbrev pub premise_at : Option Rule → ℕ → Result Difference Fault
premise_at None i = Err no_rule
premise_at (Some r) i = difference_at r.premises i

abbrev pub concluded : Option Rule → Result Difference Fault
concluded None = Err no_rule
concluded (Some r) = Ok r.conclusion
