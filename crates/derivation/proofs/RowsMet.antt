-- Stored rows, as a plan of a table's variables meets them.
use Rattle.std.proofs.Common.{◌≡◌, ℕ, ◌≤◌, List, [], ◌∷◌, map, length, sym, refl, ap, ap₂}
use lib.Signed.{le_z}
use Rattle.terms.specs.declared.row.Row.{Row as Stored}
use Rattle.terms.specs.Rows.{Plan, meets}
use Rattle.terms.specs.Stored.{row_of, whole}
use Rattle.terms.proofs.Sums.{dot_front}

pub rows_met : (n : ℕ) (x : Plan) (rows : List Stored) → length x ≤ n → map (λ (r : Stored). meets x (whole r)) rows ≡ map (meets x) (map (row_of n) rows)
rows_met n x [] h = refl
rows_met n x (r ∷ rows) h = ap₂ ◌∷◌ (sym (ap (λ z. le_z z r.right) (dot_front n r.coefficients.items x h))) (rows_met n x rows h)
