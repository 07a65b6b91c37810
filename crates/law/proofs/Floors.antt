-- Division rounded down, and division without remainder, by a positive number.
use Rattle.std.proofs.Common.{◌≡◌, ℕ, ◌/◌, ◌<◌, List, [], ◌∷◌, map, ℤ, pos, negsuc, ◌+ℤ◌, ◌*ℤ◌, ◌≤ℤ◌, ◌<ℤ◌, sym, refl, ap₂, mod-lt, div-one, arith}
use mathlib.Core.Path.{subst⁻¹}
use mathlib.Core.List.{nil≢cons, cons≢nil, head-eq_of_cons-eq, tail-eq_of_cons-eq}
use native.Mathlib.Nat.{div-add-mod}
use lib.Signed.{shr_z}
use Rattle.std.specs.List.{AllByRecursion}
use Rattle.std.proofs.lemmas.Int.{by_lt_z, ints}
use Rattle.terms.proofs.Integers.{*ℤ-+ℤ, eq_z_true, floor_le, times_le}
use Rattle.law.specs.Lines.{divides, floor, times}
use Rattle.law.proofs.Clear.{Yes}

shifted : (z : ℤ) (d : ℕ) → floor z d ≡ shr_z z d
shifted (pos a) d = refl
shifted (negsuc a) d = refl

-- the floor is the greatest number whose multiple does not pass
pub floor_greatest : (d : ℕ) (z r : ℤ) → 0 < d → (pos d *ℤ z) ≤ℤ r → z ≤ℤ floor r d
floor_greatest d z r h p = subst⁻¹ (λ q. z ≤ℤ q) (shifted r d) (floor_le d z r h p)

pub floor_down : (d : ℕ) (r : ℤ) → 0 < d → (pos d *ℤ floor r d) ≤ℤ r
floor_down d (pos a) h = omega (arith, ints, div-add-mod a d)
floor_down d (negsuc a) h = omega (arith, ints, div-add-mod a d, mod-lt a h)

pub floor_next : (d : ℕ) (r : ℤ) → 0 < d → r <ℤ (pos d *ℤ (floor r d +ℤ pos 1))
floor_next d (pos a) h = omega (arith, ints, div-add-mod a d, mod-lt a h)
floor_next d (negsuc a) h = omega (arith, ints, *ℤ-+ℤ (pos d) (negsuc (a / d)) (pos 1), div-add-mod a d)

pub floor-by_one : (z : ℤ) → floor z 1 ≡ z
floor-by_one (pos a) = omega (arith, ints, div-one a)
floor-by_one (negsuc a) = omega (arith, ints, div-one a)

-- coefficients that are all divided without remainder
pub divided_back : (d : ℕ) (cs : List ℤ) → AllByRecursion Yes (map (divides d) cs) → times (pos d) (map (λ c. floor c d) cs) ≡ cs
divided_back d [] h = refl
divided_back d (c ∷ cs) h = ap₂ ◌∷◌ (eq_z_true (pos d *ℤ floor c d) c h.0) (divided_back d cs h.1)

-- ---- a quotient is the only one
multiple_once : (d : ℕ) (a b : ℤ) → 0 < d → pos d *ℤ a ≡ pos d *ℤ b → a ≡ b
multiple_once d a b h e = by_lt_z a b (λ l. absurd (apart d a b h l e)) (λ l. by_lt_z b a (λ k. absurd (apart d b a h k (sym e))) (λ k. omega (arith, ints)))
  where
    apart : (d : ℕ) (a b : ℤ) → 0 < d → a <ℤ b → pos d *ℤ a ≡ pos d *ℤ b → ⊥
    apart d a b h l e = let m : (pos d *ℤ (a +ℤ pos 1)) ≤ℤ (pos d *ℤ b) = times_le d (a +ℤ pos 1) b (omega (arith, ints)) in omega (arith, ints, *ℤ-+ℤ (pos d) a (pos 1))

pub multiples_once : (d : ℕ) (cs bs : List ℤ) → 0 < d → times (pos d) cs ≡ times (pos d) bs → cs ≡ bs
multiples_once d [] [] h e = refl
multiples_once d [] (b ∷ bs) h e = absurd (nil≢cons e)
multiples_once d (c ∷ cs) [] h e = absurd (cons≢nil e)
multiples_once d (c ∷ cs) (b ∷ bs) h e = ap₂ ◌∷◌ (multiple_once d c b h (head-eq_of_cons-eq e)) (multiples_once d cs bs h (tail-eq_of_cons-eq e))

pub floor_below : (d : ℕ) (a b s : ℤ) → 0 < d → (pos d *ℤ a) ≤ℤ s → s <ℤ (pos d *ℤ (b +ℤ pos 1)) → a ≤ℤ b
floor_below d a b s h l u =
    by_lt_z b a (λ k. let m : (pos d *ℤ (b +ℤ pos 1)) ≤ℤ (pos d *ℤ a) = times_le d (b +ℤ pos 1) a (omega (arith, ints)) in absurd (omega (arith, ints))) (λ k. k)
