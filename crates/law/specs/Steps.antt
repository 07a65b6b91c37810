-- The checks of branch, infer, cutoff, take, drop and pin, in their order, where something is open and t is its table.
use Rattle.std.specs.Prelude.{ℕ, ◌*◌, Bool, true, not, ◌&&◌, ◌||◌, List, [], ◌∷◌, ◌++◌, map, length, pos, ◌-ℤ◌, is_some, Some, None, Option, ◌==◌, int_lt, nat_lt}
use Rattle.std.specs.List.{zip}
use Rattle.terms.specs.declared.difference.Difference.{Difference}
use Rattle.terms.specs.declared.fault.Cause.TheVariants.{NoPlanTaken, NoRule, NoSuchPlace, NotAdmitted, NotCheaper, NotContradiction, NotFixed, OutOfRange, PlaceNotVariable, PointStaysOpen, PremiseNotShown, RowMissed, WrongLength}
use Rattle.terms.specs.declared.fault.Fault.{Fault}
use Rattle.terms.specs.Faults.{fault, first_unless, unless}
use Rattle.terms.specs.Limits.{million, right_limit, within}
use Rattle.terms.specs.Rows.{Plan, Row, difference_row, meets, opposite}
use Rattle.theories.specs.Meaning.{Meaning, Rule}
use Rattle.theories.specs.Pairs.{every}
use Rattle.law.specs.Jobs.{Job, cost, size}
use Rattle.law.specs.Lines.{no_row, places_check, room_check, row_at}
use Rattle.law.specs.Bounds.{all_zero, empty, held_from, point, shown_at}

-- ---- branch: the row and its opposite keep the row limits
abbrev pub branch_checks : ℕ → List Row → Row → List (Option Fault)
branch_checks n t r =
    unless (length r.coefficients == n) WrongLength 0
    ∷ first_unless OutOfRange 0 (map (within million) r.coefficients)
    ∷ unless (within right_limit r.right && within right_limit (opposite r).right) OutOfRange (length r.coefficients)
    ∷ room_check t 1
    ∷ []

-- ---- infer
-- a place is that of a variable, or none
abbrev pub named : ℕ → ℕ → Bool
named n place = nat_lt place n || nat_lt 15 place

abbrev pub both_named : ℕ → Difference → Bool
both_named n d = named n d.first && named n d.second

-- the place of a premise is in the table, or is not read
abbrev pub found : ℕ → List Row → Difference → ℕ → Bool
found n t d place = empty n d || nat_lt place (length t)

abbrev pub rule_checks : ℕ → List Row → Option Rule → List ℕ → List (Option Fault)
rule_checks n t None places = Some (fault NoRule 0) ∷ []
rule_checks n t (Some u) places =
    first_unless PlaceNotVariable 0 (map (both_named n) (u.premises ++ u.conclusion ∷ []))
    ∷ unless (length places == length u.premises) WrongLength 0
    ∷ room_check t 1
    ∷ first_unless NoSuchPlace 0 (map (λ q. found n t q.0 q.1) (zip u.premises places))
    ∷ first_unless PremiseNotShown 0 (map (λ q. shown_at n t q.0 q.1) (zip u.premises places))
    ∷ []

-- the conclusion's row
abbrev pub rule_row : ℕ → Option Rule → Row
rule_row n None = no_row
rule_row n (Some u) = difference_row n u.conclusion

-- ---- cutoff
abbrev pub cutoff_checks : List Row → Option Plan → List (Option Fault)
cutoff_checks t None = Some (fault NoPlanTaken 0) ∷ []
cutoff_checks t (Some y) = room_check t 1 ∷ []

-- the cost is at most that of the plan taken, less 1
abbrev pub cutoff_row : Job → Option Plan → Row
cutoff_row j None = no_row
cutoff_row j (Some y) = record { coefficients = j.costs; right = cost j y -ℤ pos 1 }

-- ---- take
-- a plan costs less than the plan taken, if one is
abbrev pub cheaper : Job → Option Plan → Plan → Bool
cheaper j None x = true
cheaper j (Some y) x = int_lt (cost j x) (cost j y)

abbrev pub take_checks : Job → Meaning (List ℕ) → Option Plan → Plan → List (Option Fault)
take_checks j th taken x =
    unless (length x == size j) WrongLength 0
    ∷ first_unless OutOfRange 0 (map (within million) x)
    ∷ first_unless RowMissed 0 (map (meets x) j.rows)
    ∷ unless (th.admits x) NotAdmitted 0
    ∷ unless (cheaper j taken x) NotCheaper 0
    ∷ []

-- ---- drop
-- no coefficient, and a right side below 0
abbrev pub contradiction : Row → Bool
contradiction r = all_zero r.coefficients && int_lt r.right (pos 0)

abbrev pub drop_checks : List Row → ℕ → List (Option Fault)
drop_checks t place = unless (nat_lt place (length t)) NoSuchPlace 0 ∷ unless (contradiction (row_at t place)) NotContradiction 0 ∷ []

-- ---- pin
-- a point misses a row of the table, is not admitted, or costs no less than the plan taken
abbrev pub shuts_at : Job → Meaning (List ℕ) → List Row → Option Plan → Plan → Bool
shuts_at j th t taken x = not (every (map (meets x) t)) || (not (th.admits x) || not (cheaper j taken x))

abbrev pub pin_checks : Job → Meaning (List ℕ) → List Row → Option Plan → List ℕ → List (Option Fault)
pin_checks j th t taken places =
    unless (length places == 2 * size j) WrongLength 0
    ∷ places_check t places
    ∷ first_unless NotFixed 0 (map is_some (held_from (size j) 0 t places))
    ∷ unless (shuts_at j th t taken (point (size j) t places)) PointStaysOpen 0
    ∷ []
