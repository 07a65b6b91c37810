-- The rows that hold a variable are those of two differences with no variable on one side.
use Rattle.std.proofs.Common.{◌≡◌, ℕ, zero, suc, ◌+◌, ◌*◌, ◌<◌, ◌≤◌, Bool, true, false, cond, ◌&&◌, List, [], ◌∷◌, length, get_or, ℤ, pos, neg_ℤ, nat_abs, Some, None, Option, sym, refl, ap, ◌∙◌, ap₂, arith}
use Rattle.std.proofs.lemmas.List.{ext_get_or, length-map}
use Rattle.std.proofs.lemmas.Int.{ints}
use Rattle.terms.specs.declared.difference.Difference.{Difference}
use Rattle.terms.specs.Integers.{eq_z}
use Rattle.terms.specs.Limits.{million, within}
use Rattle.terms.specs.Rows.{Row, difference_row, negated, unit}
use Rattle.terms.proofs.ByPlace.{at_difference, at_negated, at_unit_other, length-difference, length-unit}
use Rattle.terms.proofs.Passed.{clash}
use Rattle.terms.proofs.SmallLists.{within_near}
use Rattle.law.specs.Bounds.{bound, held_at, held_from, only_value}
use Rattle.law.specs.Lines.{row_at}

-- a place that is no variable has no coefficient
at_none : (n k : ℕ) → n ≤ 16 → k < n → get_or (unit n 16) k (pos 0) ≡ pos 0
at_none n k narrow h = at_unit_other n 16 k (λ e. omega arith)

pub above_unit : (n i : ℕ) (most : ℤ) → n ≤ 16 → (difference_row n (record { first = i; second = 16; most = most })).coefficients ≡ unit n i
above_unit n i most narrow =
    let d : Difference = record { first = i; second = 16; most = most } in
    ext_get_or (pos 0) (difference_row n d).coefficients (unit n i) (length-difference n d ∙ sym (length-unit n i))
    (λ k h. let e = at_difference n d k in let z = at_none n k narrow (omega (arith, length-difference n d)) in omega (arith, ints))

pub below_unit : (n i : ℕ) (most : ℤ) → n ≤ 16 → (difference_row n (record { first = 16; second = i; most = most })).coefficients ≡ negated (unit n i)
below_unit n i most narrow =
    let d : Difference = record { first = 16; second = i; most = most } in
    ext_get_or (pos 0) (difference_row n d).coefficients (negated (unit n i)) (length-difference n d ∙ sym (length-map (unit n i) neg_ℤ ∙ length-unit n i))
    (λ k h. let e = at_difference n d k in let f = at_negated (unit n i) k in let z = at_none n k narrow (omega (arith, length-difference n d)) in omega (arith, ints))

-- ---- the values of the variables, one by one
pub length_held : (n i : ℕ) (t : List Row) (ps : List ℕ) (m : ℕ) → length ps ≡ 2 * m → length (held_from n i t ps) ≡ m
length_held n i t [] m e = omega arith
length_held n i t (p ∷ []) m e = absurd (omega arith)
length_held n i t (p ∷ q ∷ ps) zero e = absurd (omega arith)
length_held n i t (p ∷ q ∷ ps) (suc m) e = ap suc (length_held n (i + 1) t ps m (omega arith))

pub held_there : (n i : ℕ) (t : List Row) (ps : List ℕ) (k : ℕ) → 2 * k + 1 < length ps → get_or (held_from n i t ps) k None ≡ held_at n (i + k) (row_at t (get_or ps (2 * k) 0)) (row_at t (get_or ps (2 * k + 1) 0))
held_there n i t [] k h = absurd (omega arith)
held_there n i t (p ∷ []) k h = absurd (omega arith)
held_there n i t (p ∷ q ∷ ps) zero h = let z : i ≡ i + 0 = omega arith in ap (λ j. held_at n j (row_at t p) (row_at t q)) z
held_there n i t (p ∷ q ∷ ps) (suc k) h =
    let a : suc (suc (2 * k)) ≡ 2 * suc k = omega arith in let b : suc (suc (2 * k + 1)) ≡ 2 * suc k + 1 = omega arith in let c : (i + 1) + k ≡ i + suc k = omega arith in
    held_there n (i + 1) t ps k (omega arith)
    ∙ ap (λ j. held_at n j (row_at t (get_or ps (2 * k) 0)) (row_at t (get_or ps (2 * k + 1) 0))) c
    ∙ ap₂ (λ x y. held_at n (i + suc k) (row_at t (get_or (p ∷ q ∷ ps) x 0)) (row_at t (get_or (p ∷ q ∷ ps) y 0))) a b

-- the value of a variable, of as many places as two for each
pub held_variable : (n : ℕ) (t : List Row) (ps : List ℕ) (i : ℕ) (o : Option ℤ) → length ps ≡ 2 * n → i < n → o ≡ held_at n i (row_at t (get_or ps (2 * i) 0)) (row_at t (get_or ps (2 * i + 1) 0)) → get_or (held_from n 0 t ps) i None ≡ o
held_variable n t ps i o l h e =
    let z : 0 + i ≡ i = omega arith in
    held_there n 0 t ps i (omega arith) ∙ ap (λ j. held_at n j (row_at t (get_or ps (2 * i) 0)) (row_at t (get_or ps (2 * i + 1) 0))) z ∙ sym e

-- a value that is held is within 1,000,000 of zero
by_limits : (a v : ℤ) (same limited : Bool) → within million a ≡ limited → cond (same && limited) (Some a) None ≡ Some v → nat_abs v ≤ 1000000
by_limits a v true true w e = let s : a ≡ v = cc in rw (sym s) (within_near million a w)
by_limits a v true false w e = clash (cc)
by_limits a v false limited w e = clash (cc)

only_near : (above below : Option ℤ) (v : ℤ) → only_value above below ≡ Some v → nat_abs v ≤ 1000000
only_near None below v e = clash (cc)
only_near (Some a) None v e = clash (cc)
only_near (Some a) (Some b) v e = by_limits a v (eq_z b (neg_ℤ a)) (within million a) refl e

pub held_near : (n i : ℕ) (above below : Row) (v : ℤ) → held_at n i above below ≡ Some v → nat_abs v ≤ 1000000
held_near n i above below v e = only_near (bound (unit n i) above) (bound (negated (unit n i)) below) v e
