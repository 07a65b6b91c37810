-- Fronts of stored rows.
use Rattle.std.proofs.Common.{◌≡◌, ℕ, List, length, take, ℤ, neg_ℤ, ap, ◌∙◌}
use Rattle.std.proofs.lemmas.List.{take_at, take-map}
use Rattle.terms.specs.declared.row.Row.{Row as Stored}
use Rattle.terms.specs.Rows.{Row, turned}
use Rattle.terms.specs.Stored.{padded, row_of, whole}

-- a row turned is turned in each of its fronts
pub front_turned : (n : ℕ) (r s : Stored) → whole s ≡ turned (whole r) → row_of n s ≡ turned (row_of n r)
front_turned n r s e =
    ap (λ (w : Row). record { coefficients = take n w.coefficients; right = w.right }) e
    ∙ ap (λ cs. record { coefficients = cs; right = neg_ℤ r.right }) (take-map neg_ℤ n r.coefficients.items)

-- the front of a padded row is the row as given
pub front_padded : (n : ℕ) (r : Stored) (cs : List ℤ) (right : ℤ) → length cs ≡ n → whole r ≡ record { coefficients = padded cs; right = right } → row_of n r ≡ record { coefficients = cs; right = right }
front_padded n r cs right l e =
    ap (λ (w : Row). record { coefficients = take n w.coefficients; right = w.right }) e
    ∙ ap (λ ds. record { coefficients = ds; right = right }) (take_at cs _ n l)
