-- The checks of a plan that no theory has a part in.
use Rattle.std.specs.Prelude.{◌≡◌, List, [], ◌∷◌, map, length, ℤ, None, Option, ◌==◌}
use Rattle.terms.specs.declared.fault.Cause.TheVariants.{OutOfRange, RowMissed, WrongLength}
use Rattle.terms.specs.declared.fault.Fault.{Fault}
use Rattle.terms.specs.Faults.{first_fault, first_unless, unless}
use Rattle.terms.specs.Limits.{million, within}
use Rattle.terms.specs.Rows.{Plan, meets}
use Rattle.terms.specs.Stored.{padded}
use Rattle.law.specs.Jobs.{Job, size}

-- the first checks of take: the number of values, their limits, and the job's rows
abbrev pub plan_checks : Job → Plan → List (Option Fault)
plan_checks j x =
    unless (length x == size j) WrongLength 0
    ∷ first_unless OutOfRange 0 (map (within million) x)
    ∷ first_unless RowMissed 0 (map (meets x) j.rows)
    ∷ []

-- none of them applies, and the plan is the one given, sixteen wide
pub record Planned (j : Job) (x : Plan) (items : List ℤ) : Type 0 where
  pub passed : first_fault (plan_checks j x) ≡ None
  pub is : items ≡ padded x
