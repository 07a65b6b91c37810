-- What a row that passed its checks is, in a job and in a table.
use Rattle.std.specs.Prelude.{◌≡◌, ℕ, List, ℤ, Some, None, Option}
use Rattle.terms.specs.declared.fault.Fault.{Fault}
use Rattle.terms.specs.declared.row.Row.{Row as Stored}
use Rattle.terms.specs.Faults.{first_fault}
use Rattle.terms.specs.Rows.{Row}
use Rattle.terms.specs.Stored.{padded, row_of}
use Rattle.law.specs.declared.relation.Relation.{Relation}
use Rattle.law.specs.Jobs.{Job, relation_of, row_checks}
use Rattle.law.specs.Steps.{branch_checks}

-- no check applies, the letter names the relation, and the row is the one given, sixteen wide
pub record Joins (j : Job) (coefficients : List ℤ) (letter : ℕ) (right : ℤ) (row : Row) (relation : Relation) : Type 0 where
  pub passed : first_fault (row_checks j coefficients letter right) ≡ None
  pub named : relation_of letter ≡ Some relation
  pub is : row ≡ record { coefficients = padded coefficients; right = right }

-- no check of a branch applies to a table, and the row is the one given, sixteen wide
pub record Branches (n : ℕ) (t : List Row) (coefficients : List ℤ) (right : ℤ) (row : Row) : Type 0 where
  pub passed : first_fault (branch_checks n t (record { coefficients = coefficients; right = right })) ≡ None
  pub is : row ≡ record { coefficients = padded coefficients; right = right }

-- none of these checks applies, and the stored row, of n variables, is this one
pub record Makes (n : ℕ) (checks : List (Option Fault)) (r : Row) (stored : Stored) : Type 0 where
  pub passed : first_fault checks ≡ None
  pub is : row_of n stored ≡ r
