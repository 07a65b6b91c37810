-- The map of numbers, and how many bytes they have.
use Rattle.std.proofs.Common.{◌≡◌, ℕ, ◌+◌, ◌*◌, ◌%◌, ◌≤◌, Bool, true, false, cond, not, List, [], ◌∷◌, ◌++◌, reverse, length, ℤ, pos, bit_or, refl, ap, ◌∙◌, arith, of_z, w32}
use Rattle.std.specs.List.{filter, fold}
use Rattle.std.proofs.lemmas.List.{reverse-append}
use Rattle.std.proofs.lemmas.List.Sums.{fold-append}
use Rattle.std.proofs.lemmas.Nat.{or_shifted}
use Rattle.terms.specs.Integers.{eq_z}
use Rattle.spelling.specs.StepsWritten.{bytes32, map_of, numbers_bytes}
use Rattle.spelling.proofs.MapsSpelt.{map_small}

-- the bit of one number below the map of those after it
abbrev pub with_bit : ℕ → ℤ → ℕ
with_bit m v = bit_or (m * 2 % 65536) (cond (eq_z v (pos 0)) 0 1)

bit_more : (b : Bool) (m : ℕ) → m * 2 % 65536 ≡ m * 2 → bit_or (m * 2 % 65536) (cond b 0 1) ≡ cond b 0 1 + 2 * m
bit_more true m e = ap (λ k. bit_or k 0) e ∙ or_shifted m 1 0 (omega arith) ∙ omega arith
bit_more false m e = ap (λ k. bit_or k 1) e ∙ or_shifted m 1 1 (omega arith) ∙ omega arith

pub map_made : (vs : List ℤ) → length vs ≤ 16 → fold with_bit 0 (reverse vs) ≡ map_of vs
map_made [] h = refl
map_made (v ∷ vs) h =
    ap (fold with_bit 0) (reverse-append (v ∷ []) vs)
    ∙ fold-append with_bit 0 (reverse vs) (v ∷ [])
    ∙ ap (λ m. with_bit m v) (map_made vs (omega arith))
    ∙ bit_more (eq_z v (pos 0)) (map_of vs) (let s = map_small 15 vs (omega arith) in omega arith)

-- four bytes for each that is not 0
pub numbers_long : (vs : List ℤ) → 4 * length (filter (λ v. not (eq_z v (pos 0))) vs) ≡ length (numbers_bytes vs)
numbers_long [] = refl
numbers_long (v ∷ vs) = by (eq_z v (pos 0)) (numbers_long vs)
  where
    by : (b : Bool) → 4 * length (filter (λ v'. not (eq_z v' (pos 0))) vs) ≡ length (numbers_bytes vs) → 4 * length (cond (not b) (v ∷ filter (λ v'. not (eq_z v' (pos 0))) vs) (filter (λ v'. not (eq_z v' (pos 0))) vs)) ≡ length (cond b [] (bytes32 (of_z w32 v)) ++ numbers_bytes vs)
    by true e = e
    by false e = omega (arith, e)
