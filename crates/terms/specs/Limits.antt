-- The limits of numbers.
use Rattle.std.specs.Prelude.{ℕ, Bool, ◌&&◌, List, [], ◌∷◌, ◌++◌, map, length, ℤ, pos, neg_ℤ, Option, int_le, nat_le}
use Rattle.terms.specs.declared.fault.Cause.TheVariants.{WrongLength, OutOfRange}
use Rattle.terms.specs.declared.fault.Fault.{Fault}
use Rattle.terms.specs.Faults.{first_unless, unless}

abbrev pub within : ℕ → ℤ → Bool
within k z = int_le (neg_ℤ (pos k)) z && int_le z (pos k)

-- coefficients, costs and values
abbrev pub million : ℕ
million = 1000000

-- right sides
abbrev pub right_limit : ℕ
right_limit = 20000000000000

-- a list of at most sixteen coefficients, within their limit
abbrev pub list_limits : List ℤ → List (Option Fault)
list_limits numbers = unless (nat_le (length numbers) 16) WrongLength 0 ∷ first_unless OutOfRange 0 (map (within million) numbers) ∷ []

-- the row limits, the right side last
abbrev pub row_limits : List ℤ → ℤ → List (Option Fault)
row_limits coefficients right = list_limits coefficients ++ unless (within right_limit right) OutOfRange (length coefficients) ∷ []
