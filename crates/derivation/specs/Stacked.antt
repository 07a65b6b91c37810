-- Waiting heights over stored rows.
use Rattle.std.specs.Prelude.{ℕ, Bool, ◌&&◌, List, [], ◌∷◌, map, reverse, ℤ, pos, int_lt, nat_le, nat_lt, Some, None, Option, slice_index_or}
use Rattle.arrayvec.specs.ArrayVec.{ArrayVec}
use Rattle.terms.specs.declared.row.Row.{Row as Stored}
use Rattle.terms.specs.Limits.{right_limit}

-- from the newest, which is stored last; none where nothing is open
abbrev pub heights_of : Option (ArrayVec ℕ) → List ℕ
heights_of None = []
heights_of (Some hs) = reverse hs.items

abbrev pub rights_of : List Stored → List ℤ
rights_of rows = map (λ (r : Stored). r.right) rows

-- each height, from the newest, is a place below n and none of the given rows; the opposite of its row keeps the row limits
abbrev pub stacked : ℕ → List ℤ → ℕ → List ℕ → Bool
stacked given rights n [] = nat_le given n
stacked given rights n (h ∷ hs) = nat_lt h n && (int_lt (slice_index_or rights h (pos 0)) (pos right_limit) && stacked given rights h hs)
