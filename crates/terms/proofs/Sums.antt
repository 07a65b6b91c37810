-- Sums of coefficient times value.
use Rattle.std.proofs.Common.{◌≡◌, ℕ, zero, suc, ◌+◌, ◌*◌, ◌<◌, ◌≤◌, min, List, [], ◌∷◌, length, get_or, take, drop, ℤ, pos, ◌+ℤ◌, ◌-ℤ◌, ◌*ℤ◌, nat_abs, refl, ap, ◌∙◌, ap₂, ⊎_elim, arith, w32, w64, SFits, to_z, of_z}
use Rattle.std.proofs.lemmas.Int.{ints, to_z-of_z}
use Rattle.std.proofs.lemmas.List.{drop_more, drop_all}
use Rattle.std.proofs.lemmas.Bool.{cases_lt}
use Rattle.terms.specs.Rows.{Plan, dot}

pub dot_more : (cs xs : List ℤ) (i : ℕ) → i < length cs → i < length xs → dot (drop i cs) (drop i xs) ≡ get_or cs i (pos 0) *ℤ get_or xs i (pos 0) +ℤ dot (drop (i + 1) cs) (drop (i + 1) xs)
dot_more cs xs i h g = ap₂ dot (drop_more cs i (pos 0) h) (drop_more xs i (pos 0) g)

dot_none : (cs : List ℤ) → dot cs [] ≡ pos 0
dot_none [] = refl
dot_none (c ∷ cs) = refl

-- nothing is left once either list is
pub dot_past : (cs xs : List ℤ) (i : ℕ) → min (length xs) (length cs) ≤ i → dot (drop i cs) (drop i xs) ≡ pos 0
dot_past cs xs i h = ⊎_elim
    (λ (g : i < length xs). ap (λ ys. dot ys (drop i xs)) (drop_all i cs (omega arith)))
    (λ (g : length xs ≤ i). ap (dot (drop i cs)) (drop_all i xs g) ∙ dot_none (drop i cs))
    (cases_lt i (length xs))

none_taken : (n : ℕ) → take {A = ℤ} n [] ≡ []
none_taken zero = refl
none_taken (suc n) = refl

-- places past a row's end do not count
pub dot_within : (n : ℕ) (cs : List ℤ) (xs : Plan) → min (length xs) (length cs) ≤ n → dot cs (take n xs) ≡ dot cs xs
dot_within n [] xs h = refl
dot_within n (c ∷ cs) [] h = ap (dot (c ∷ cs)) (none_taken n)
dot_within zero (c ∷ cs) (x ∷ xs) h = absurd (omega arith)
dot_within (suc n) (c ∷ cs) (x ∷ xs) h = ap (λ s. c *ℤ x +ℤ s) (dot_within n cs xs (omega arith))

-- places past a plan's end do not count
pub dot_front : (n : ℕ) (cs : List ℤ) (xs : Plan) → length xs ≤ n → dot (take n cs) xs ≡ dot cs xs
dot_front n [] xs h = ap (λ cs. dot cs xs) (none_taken n)
dot_front n (c ∷ cs) [] h = dot_none (take n (c ∷ cs))
dot_front zero (c ∷ cs) (x ∷ xs) h = absurd (omega arith)
dot_front (suc n) (c ∷ cs) (x ∷ xs) h = ap (λ s. c *ℤ x +ℤ s) (dot_front n cs xs (omega arith))

-- two numbers that are read and multiplied
pub both_read : (a b : ℤ) → SFits w32 a → SFits w32 b → to_z w32 (of_z w32 a) *ℤ to_z w32 (of_z w32 b) ≡ a *ℤ b
both_read a b f g = simp to_z-of_z

-- one term more of a sum at 64 bits: over plain variables, since `omega` has a bound on what it reads in an answer;
-- the equation e shows antt what s is
module _ {s : ℤ} (total d rest p : ℤ) (n : ℕ) (e : s ≡ (total -ℤ d)) (small : nat_abs s + (n + 1) * 2147483648000000 ≤ 34359738368000000) (fits : SFits w64 p) (bound : nat_abs p ≤ 2147483648000000) where
  pub next_is : d ≡ p +ℤ rest → to_z w64 (of_z w64 (s +ℤ to_z w64 (of_z w64 p))) ≡ (total -ℤ rest)
  next_is f = omega (arith, ints)

  pub next_small : nat_abs (to_z w64 (of_z w64 (s +ℤ to_z w64 (of_z w64 p)))) + n * 2147483648000000 ≤ 34359738368000000
  next_small = omega (arith, ints)
