-- Rows read place by place.
use Rattle.std.proofs.Common.{◌≡◌, ℕ, zero, suc, ◌-◌, ◌<◌, ◌≤◌, max, List, [], ◌∷◌, length, get_or, replicate, ℤ, pos, ◌+ℤ◌, ◌-ℤ◌, neg_ℤ, nat_abs, ◌≤ℤ◌, sym, refl, ap, ◌∙◌, ⊎_elim, arith}
use Rattle.std.proofs.lemmas.Int.{ints}
use Rattle.std.proofs.lemmas.List.{length-map, get_or_append_left, get_or-append_right, get_or_past, length-replicate, ext_get_or}
use Rattle.terms.proofs.SmallLists.{padded_long}
use Rattle.std.proofs.lemmas.Bool.{cases_lt}
use Rattle.terms.specs.declared.difference.Difference.{Difference}
use Rattle.terms.specs.Rows.{difference_row, negated, plus, unit}
use Rattle.terms.specs.Stored.{padded}

pub at_plus : (a b : List ℤ) (i : ℕ) → get_or (plus a b) i (pos 0) ≡ get_or a i (pos 0) +ℤ get_or b i (pos 0)
at_plus [] b i = omega (arith, ints)
at_plus (a ∷ cs) [] i = omega (arith, ints)
at_plus (a ∷ cs) (b ∷ bs) zero = refl
at_plus (a ∷ cs) (b ∷ bs) (suc i) = at_plus cs bs i

pub at_negated : (a : List ℤ) (i : ℕ) → get_or (negated a) i (pos 0) ≡ neg_ℤ (get_or a i (pos 0))
at_negated [] i = refl
at_negated (a ∷ cs) zero = refl
at_negated (a ∷ cs) (suc i) = at_negated cs i

at_zeros : (n i : ℕ) → get_or (replicate n (pos 0)) i (pos 0) ≡ pos 0
at_zeros zero i = refl
at_zeros (suc n) zero = refl
at_zeros (suc n) (suc i) = at_zeros n i

pub at_unit_same : (n i : ℕ) → i < n → get_or (unit n i) i (pos 0) ≡ pos 1
at_unit_same zero i h = absurd (omega arith)
at_unit_same (suc n) zero h = refl
at_unit_same (suc n) (suc i) h = at_unit_same n i (omega arith)

pub at_unit_other : (n i k : ℕ) → (k ≡ i → ⊥) → get_or (unit n i) k (pos 0) ≡ pos 0
at_unit_other zero i k h = refl
at_unit_other (suc n) zero zero h = absurd (h refl)
at_unit_other (suc n) zero (suc k) h = at_zeros n k
at_unit_other (suc n) (suc i) zero h = refl
at_unit_other (suc n) (suc i) (suc k) h = at_unit_other n i k (λ e. h (ap suc e))

-- a place of a unit is 0 or 1
pub unit_mark : (n i k : ℕ) → (pos 0 ≤ℤ get_or (unit n i) k (pos 0)) × (get_or (unit n i) k (pos 0) ≤ℤ pos 1)
unit_mark zero i k = (omega (arith, ints), omega (arith, ints))
unit_mark (suc n) zero zero = (omega (arith, ints), omega (arith, ints))
unit_mark (suc n) zero (suc k) = let e = at_zeros n k in (omega (arith, ints), omega (arith, ints))
unit_mark (suc n) (suc i) zero = (omega (arith, ints), omega (arith, ints))
unit_mark (suc n) (suc i) (suc k) = unit_mark n i k

pub length-unit : (n i : ℕ) → length (unit n i) ≡ n
length-unit zero i = refl
length-unit (suc n) zero = ap suc (length-replicate n (pos 0))
length-unit (suc n) (suc i) = ap suc (length-unit n i)

pub length-plus : (a b : List ℤ) → length (plus a b) ≡ max (length a) (length b)
length-plus [] b = omega arith
length-plus (a ∷ cs) [] = omega arith
length-plus (a ∷ cs) (b ∷ bs) = omega (arith, length-plus cs bs)

pub length-difference : (n : ℕ) (d : Difference) → length (difference_row n d).coefficients ≡ n
length-difference n d =
    length-plus (unit n d.first) (negated (unit n d.second))
    ∙ omega (arith, length-unit n d.first, length-map (unit n d.second) neg_ℤ, length-unit n d.second)

pub at_difference : (n : ℕ) (d : Difference) (i : ℕ) → get_or (difference_row n d).coefficients i (pos 0) ≡ (get_or (unit n d.first) i (pos 0) -ℤ get_or (unit n d.second) i (pos 0))
at_difference n d i =
    let e = at_plus (unit n d.first) (negated (unit n d.second)) i in
    let f = at_negated (unit n d.second) i in
    omega (arith, ints)

pub difference_near : (n : ℕ) (d : Difference) (i : ℕ) → nat_abs (get_or (difference_row n d).coefficients i (pos 0)) ≤ 1
difference_near n d i =
    let e = at_difference n d i in
    let p = unit_mark n d.first i in let q = unit_mark n d.second i in
    omega (arith, ints, p.0, p.1, q.0, q.1)

-- no place past the end of a list is other than 0, so zeros after it change no place
pub at_padded : (xs : List ℤ) (i : ℕ) → get_or (padded xs) i (pos 0) ≡ get_or xs i (pos 0)
at_padded xs i = ⊎_elim
    (λ (h : i < length xs). get_or_append_left xs _ (pos 0) i h)
    (λ (h : length xs ≤ i). get_or-append_right xs (replicate (16 - length xs) (pos 0)) (length xs) i (pos 0) refl h ∙ at_zeros (16 - length xs) (i - length xs) ∙ sym (get_or_past xs i (pos 0) h))
    (cases_lt i (length xs))

-- sixteen places that are those of a list of at most sixteen
pub same_padded : (xs items : List ℤ) → length items ≡ 16 → length xs ≤ 16 → ((k : ℕ) → k < 16 → get_or items k (pos 0) ≡ get_or xs k (pos 0)) → items ≡ padded xs
same_padded xs items l m h =
    ext_get_or (pos 0) items (padded xs) (l ∙ sym (padded_long xs m)) (λ k g. h k (omega arith) ∙ sym (at_padded xs k))
