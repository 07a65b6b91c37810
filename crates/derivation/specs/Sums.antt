-- A sum of rows as it is stored, what it is once divided, and the row that a line makes.
use Rattle.std.specs.Prelude.{◌≡◌, ℕ, List, [], ◌∷◌, ◌++◌, map, take, ℤ, None, Option}
use Rattle.terms.specs.declared.fault.Cause.TheVariants.{NotDivisible, RowTooLarge}
use Rattle.terms.specs.declared.fault.Fault.{Fault}
use Rattle.terms.specs.declared.row.Row.{Row as Stored}
use Rattle.terms.specs.Faults.{first_fault, first_unless, unless}
use Rattle.terms.specs.Limits.{million, right_limit, within}
use Rattle.terms.specs.Rows.{Row}
use Rattle.terms.specs.Stored.{row_of}
use Rattle.law.specs.declared.premise.Premise.{Premise}
use Rattle.law.specs.Calls.{Line}
use Rattle.law.specs.Lines.{divides, floor, last_made, line_checks, lines_checks, made, made_checks, no_row}
use Rattle.derivation.specs.declared.sums.Sums.{Sums}

-- the first n sums, and that of the right sides
abbrev pub sum_of : ℕ → Sums → Row
sum_of n s = record { coefficients = take n s.coefficients; right = s.right }

-- stored rows, of n variables
abbrev pub table_of : ℕ → List Stored → List Row
table_of n rows = map (row_of n) rows

-- no row, no times
abbrev pub no_premise : Premise
no_premise = record { place = 0; multiplier = 0 }

abbrev pub quotients : ℕ → List ℤ → List ℤ
quotients divisor cs = map (λ c. floor c divisor) cs

-- a row divided, and rounded down
abbrev pub divided : ℕ → Row → Row
divided divisor s = record { coefficients = quotients divisor s.coefficients; right = floor s.right divisor }

abbrev pub divided_checks : ℕ → Row → List (Option Fault)
divided_checks divisor s =
    first_unless NotDivisible 0 (map (divides divisor) s.coefficients)
    ∷ first_unless RowTooLarge 0 (map (within million) (quotients divisor s.coefficients))
    ∷ unless (within right_limit (floor s.right divisor)) RowTooLarge 16
    ∷ []

-- no check applies, and the numbers are the quotients
pub record Quotients (sums : List ℤ) (divisor : ℕ) (cs : List ℤ) : Type 0 where
  pub passed : first_unless RowTooLarge 0 (map (within million) (quotients divisor sums)) ≡ None
  pub is : cs ≡ quotients divisor sums

pub record Divided (n divisor : ℕ) (s : Row) (row : Stored) : Type 0 where
  pub passed : first_fault (divided_checks divisor s) ≡ None
  pub is : row_of n row ≡ divided divisor s

-- no check applies, and the row is the one that the line makes
pub record Made (n : ℕ) (t : List Row) (l : Line) (row : Stored) : Type 0 where
  pub passed : first_fault (made_checks t l) ≡ None
  pub is : row_of n row ≡ made t l

-- the same, where the line's numbers are checked too
pub record LineMade (n : ℕ) (t : List Row) (l : Line) (row : Stored) : Type 0 where
  pub passed : first_fault (line_checks t l) ≡ None
  pub is : row_of n row ≡ made t l

-- the same, and the table has this row more
pub record LineAdded (n : ℕ) (t after : List Row) (l : Line) (row : Stored) : Type 0 where
  pub passed : first_fault (line_checks t l) ≡ None
  pub is : row_of n row ≡ made t l
  pub grown : after ≡ t ++ made t l ∷ []

-- no check of the lines applies, and the row is the one that the last line makes
pub record ChainMade (n : ℕ) (t : List Row) (ls : List Line) (row : Stored) : Type 0 where
  pub passed : first_fault (lines_checks 1 t ls) ≡ None
  pub is : row_of n row ≡ last_made no_row t ls
