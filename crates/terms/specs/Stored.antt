-- What stored rows stand for.
use Rattle.std.specs.Prelude.{ℕ, ◌-◌, List, ◌++◌, length, take, replicate, ℤ, pos, Some, None, Option}
use Rattle.terms.specs.declared.row.Row.{Row as Stored}
use Rattle.terms.specs.Rows.{Row}

-- sixteen coefficients, 0 where the list has none
abbrev pub padded : List ℤ → List ℤ
padded cs = cs ++ replicate (16 - length cs) (pos 0)

-- all sixteen coefficients of a stored row, and its right side
abbrev pub whole : Stored → Row
whole r = record { coefficients = r.coefficients.items; right = r.right }

-- the first n coefficients of a stored row, and its right side
abbrev pub row_of : ℕ → Stored → Row
row_of n r = record { coefficients = take n r.coefficients.items; right = r.right }

abbrev pub wholes : Option Stored → Option Row
wholes None = None
wholes (Some r) = Some (whole r)
