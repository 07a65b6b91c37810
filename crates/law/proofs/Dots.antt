-- The sum of coefficient times value, of sums, multiples and units of coefficients.
use Rattle.std.proofs.Common.{◌≡◌, ℕ, zero, suc, true, ◌⊎◌, List, [], ◌∷◌, length, replicate, ℤ, pos, ◌+ℤ◌, ◌-ℤ◌, ◌*ℤ◌, neg_ℤ, sym, refl, ap, ◌∙◌, ap₂, arith}
use Rattle.std.proofs.lemmas.Int.{ints}
use Rattle.std.proofs.lemmas.Bool.{and_parts}
use Rattle.terms.specs.declared.difference.Difference.{Difference}
use Rattle.terms.specs.Integers.{eq_z}
use Rattle.terms.specs.Rows.{Meets, Plan, Row, difference_row, dot, negated, opposite, plus, reads, unit}
use Rattle.terms.proofs.Integers.{*ℤ-+ℤ, *ℤ-assoc, +ℤ-*ℤ, either_side, eq_z_true, neg_*ℤ}
use Rattle.law.specs.Bounds.{all_zero}
use Rattle.law.specs.Lines.{times}

pub dot-plus : (a b x : List ℤ) → dot (plus a b) x ≡ dot a x +ℤ dot b x
dot-plus [] b x = omega (arith, ints)
dot-plus (a ∷ cs) [] x = omega (arith, ints)
dot-plus (a ∷ cs) (b ∷ bs) [] = refl
dot-plus (a ∷ cs) (b ∷ bs) (x ∷ xs) = omega (arith, ints, +ℤ-*ℤ a b x, dot-plus cs bs xs)

pub dot-times : (k : ℤ) (a x : List ℤ) → dot (times k a) x ≡ k *ℤ dot a x
dot-times k [] x = omega (arith, ints)
dot-times k (a ∷ cs) [] = omega (arith, ints)
dot-times k (a ∷ cs) (x ∷ xs) = omega (arith, ints, *ℤ-assoc k a x, *ℤ-+ℤ k (a *ℤ x) (dot cs xs), dot-times k cs xs)

pub dot-negated : (a x : List ℤ) → dot (negated a) x ≡ neg_ℤ (dot a x)
dot-negated [] x = refl
dot-negated (a ∷ cs) [] = refl
dot-negated (a ∷ cs) (x ∷ xs) = omega (arith, ints, neg_*ℤ a x, dot-negated cs xs)

dot_zeros : (n : ℕ) (x : List ℤ) → dot (replicate n (pos 0)) x ≡ pos 0
dot_zeros zero x = refl
dot_zeros (suc n) [] = refl
dot_zeros (suc n) (x ∷ xs) = omega (arith, ints, dot_zeros n xs)

-- the value of one variable
pub dot-unit : (n i : ℕ) (x : Plan) → length x ≡ n → dot (unit n i) x ≡ reads x i
dot-unit zero i [] e = refl
dot-unit zero i (x ∷ xs) e = absurd (omega arith)
dot-unit (suc n) i [] e = absurd (omega arith)
dot-unit (suc n) zero (x ∷ xs) e = omega (arith, ints, dot_zeros n xs)
dot-unit (suc n) (suc i) (x ∷ xs) e = omega (arith, ints, dot-unit n i xs (omega arith))

pub dot-difference : (n : ℕ) (d : Difference) (x : Plan) → length x ≡ n → dot (difference_row n d).coefficients x ≡ reads x d.first -ℤ reads x d.second
dot-difference n d x e =
    dot-plus (unit n d.first) (negated (unit n d.second)) x ∙ ap₂ ◌+ℤ◌ (dot-unit n d.first x e) (dot-negated (unit n d.second) x ∙ ap neg_ℤ (dot-unit n d.second x e))

pub dot_all_zero : (cs : List ℤ) (x : Plan) → all_zero cs ≡ true → dot cs x ≡ pos 0
dot_all_zero [] x e = refl
dot_all_zero (c ∷ cs) [] e = refl
dot_all_zero (c ∷ cs) (v ∷ x) e =
    let h = and_parts (eq_z (pos 0) c) (all_zero cs) e in
    ap (λ k. k *ℤ v +ℤ dot cs x) (sym (eq_z_true (pos 0) c h.0)) ∙ omega (arith, ints, dot_all_zero cs x h.1)

-- a plan meets a row or its opposite
pub row_or_opposite : (r : Row) (x : Plan) → Meets x r ⊎ Meets x (opposite r)
row_or_opposite r x = rw (dot-negated r.coefficients x) (either_side (dot r.coefficients x) r.right)
