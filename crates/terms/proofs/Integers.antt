-- Laws of whole numbers.
use Rattle.std.proofs.Common.{◌≡◌, ℕ, zero, suc, ◌*◌, ◌/◌, ◌<◌, ◌≤◌, true, ◌⊎◌, ℤ, pos, negsuc, ◌+ℤ◌, ◌-ℤ◌, ◌*ℤ◌, neg_ℤ, nat_abs, ◌≤ℤ◌, sym, refl, ap, ◌∙◌, div-lt_iff_lt-mul, mul-le-mul, mul-le-mul_left, le-div_iff_mul-le, arith}
use lib.Signed.{le_z, shr_z}
use Rattle.std.proofs.lemmas.Bool.{and_from, eqb-true, eq-eqb, false≢true}
use Rattle.terms.specs.Integers.{eq_z}
use Rattle.terms.specs.Limits.{within}
use borrow.Author.Differences.{ints, up, down, sum_is_lem, product_is, neg_is, le_out}

pub +ℤ-*ℤ : (a b c : ℤ) → (a +ℤ b) *ℤ c ≡ a *ℤ c +ℤ b *ℤ c
+ℤ-*ℤ a b c = omega (arith, ints, ap (λ n. n * up c) (sum_is_lem a b), ap (λ n. n * down c) (sum_is_lem a b))

pub *ℤ-+ℤ : (a b c : ℤ) → a *ℤ (b +ℤ c) ≡ a *ℤ b +ℤ a *ℤ c
*ℤ-+ℤ a b c = omega (arith, ints, ap (λ n. n * up a) (sum_is_lem b c), ap (λ n. n * down a) (sum_is_lem b c))

pub *ℤ-assoc : (a b c : ℤ) → (a *ℤ b) *ℤ c ≡ a *ℤ (b *ℤ c)
*ℤ-assoc a b c = omega (
  arith,
  ints,
  rw ((product_is a b).0, (product_is a b).1) at (product_is (a *ℤ b) c).0,
  rw ((product_is a b).0, (product_is a b).1) at (product_is (a *ℤ b) c).1,
  rw ((product_is b c).0, (product_is b c).1) at (product_is a (b *ℤ c)).0,
  rw ((product_is b c).0, (product_is b c).1) at (product_is a (b *ℤ c)).1,
)

pub neg_*ℤ : (a c : ℤ) → neg_ℤ a *ℤ c ≡ neg_ℤ (a *ℤ c)
neg_*ℤ a c = omega (arith, ints, ap (λ n. n * up c) (neg_is a).0, ap (λ n. n * down c) (neg_is a).0, ap (λ n. n * up c) (neg_is a).1, ap (λ n. n * down c) (neg_is a).1)

pub times_le : (k : ℕ) (a b : ℤ) → a ≤ℤ b → (pos k *ℤ a) ≤ℤ (pos k *ℤ b)
times_le k a b h = omega (arith, ints, mul-le-mul_left k (le_out a b h))

pub either_side : (v r : ℤ) → (v ≤ℤ r) ⊎ (neg_ℤ v ≤ℤ (neg_ℤ r -ℤ pos 1))
either_side v r = grind (arith, ints)

pub floor_le : (d : ℕ) (z r : ℤ) → 0 < d → (pos d *ℤ z) ≤ℤ r → z ≤ℤ shr_z r d
floor_le d (pos k) (pos a) h p =
    let q : k * d ≤ a = omega (arith, ints) in
    let c : k ≤ a / d = (le-div_iff_mul-le h).1 q in
    omega (arith, ints)
floor_le d (negsuc k) (pos a) h p = omega (arith, ints)
floor_le d (pos k) (negsuc a) h p = omega (arith, ints)
floor_le d (negsuc k) (negsuc a) h p =
    let q : a < suc k * d = omega (arith, ints) in
    let c : a / d < suc k = (div-lt_iff_lt-mul h).1 q in
    omega (arith, ints)

pub product_abs : (a b : ℤ) → nat_abs (a *ℤ b) ≡ nat_abs a * nat_abs b
product_abs (pos a) (pos b) = refl
product_abs (pos a) (negsuc b) = neg_abs (a * suc b)
  where
    neg_abs : (n : ℕ) → nat_abs (neg_ℤ (pos n)) ≡ n
    neg_abs zero = refl
    neg_abs (suc n) = refl
product_abs (negsuc a) (pos b) = neg_abs (suc a * b)
  where
    neg_abs : (n : ℕ) → nat_abs (neg_ℤ (pos n)) ≡ n
    neg_abs zero = refl
    neg_abs (suc n) = refl
product_abs (negsuc a) (negsuc b) = refl

-- the product of two numbers that are near zero
pub product_near : (k l : ℕ) (a b : ℤ) → nat_abs a ≤ k → nat_abs b ≤ l → nat_abs (a *ℤ b) ≤ k * l
product_near k l a b h g = rw (product_abs a b) (mul-le-mul h g)

pub eq_z_true : (a b : ℤ) → eq_z a b ≡ true → a ≡ b
eq_z_true (pos a) (pos b) e = ap pos (eqb-true a b e)
eq_z_true (pos a) (negsuc b) e = absurd (false≢true e)
eq_z_true (negsuc a) (pos b) e = absurd (false≢true e)
eq_z_true (negsuc a) (negsuc b) e = ap negsuc (eqb-true a b e)

pub eq_z_refl : (a : ℤ) → eq_z a a ≡ true
eq_z_refl (pos a) = eq-eqb a a refl
eq_z_refl (negsuc a) = eq-eqb a a refl

pub eq_z_same : (a b : ℤ) → a ≡ b → eq_z a b ≡ true
eq_z_same a b e = ap (eq_z a) (sym e) ∙ eq_z_refl a

pub within_from : (k : ℕ) (z : ℤ) → nat_abs z ≤ k → within k z ≡ true
within_from k z h = and_from (le_z (neg_ℤ (pos k)) z) (le_z z (pos k)) (sym (omega (arith, ints))) (sym (omega (arith, ints)))
