-- One bit more of a map.
use Rattle.std.proofs.Common.{◌≡◌, ℕ, suc, ◌+◌, ◌-◌, ◌/◌, ◌^◌, ◌<◌, ◌≤◌, Bool, not, ◌&&◌, ◌||◌, ltb, List, [], ◌∷◌, ◌++◌, length, map, take, set, ℤ, pos, Ok, Err, Result, sym, refl, ap, ◌∙◌, arith}
use Rattle.std.proofs.lemmas.List.{append_assoc, append-nil, take_all, take_more_set}
use Rattle.std.proofs.lemmas.Nat.{shr-shr}
use Rattle.std.specs.List.{enumerate_from}
use Rattle.std.proofs.Math.Nat.{div-one}
use Rattle.terms.specs.declared.fault.Fault.{Fault}
use Rattle.terms.specs.Integers.{eq_z}
use Rattle.fields.specs.Maps.{in_front, map_tests, number_then, odd, one_read, spread}

abbrev pub all_in_front : List ℤ → Result (List ℤ × List ℕ) Fault → Result (List ℤ × List ℕ) Fault
all_in_front xs (Ok p) = Ok (xs ++ p.0, p.1)
all_in_front xs (Err f) = Err f

one_more : (xs : List ℤ) (z : ℤ) (r : Result (List ℤ × List ℕ) Fault) → all_in_front (xs ++ z ∷ []) r ≡ all_in_front xs (in_front z r)
one_more xs z (Ok p) = ap (λ ys. Ok (ys, p.1)) (append_assoc xs (z ∷ []) p.0)
one_more xs z (Err f) = refl

module _ (i bits : ℕ) (bs : List ℕ) (items : List ℤ) (target : Result (List ℤ × List ℕ) Fault) (h : i < 16) (e : all_in_front (take i items) (spread (16 - i) (bits / 2 ^ i) bs) ≡ target) where
  next : spread (16 - i) (bits / 2 ^ i) bs ≡ number_then (spread (16 - (i + 1)) (bits / 2 ^ (i + 1))) (one_read (odd (bits / 2 ^ i)) bs)
  next =
      ap (λ k. spread k (bits / 2 ^ i) bs) left
      ∙ ap (λ m. number_then (spread (16 - (i + 1)) m) (one_read (odd (bits / 2 ^ i)) bs)) (shr-shr bits i 1)
    where
      left : 16 - i ≡ suc (16 - (i + 1))
      left = omega arith

  pub spread_more : (z : ℤ) (after : List ℕ) → length items ≡ 16 → Ok (z, after) ≡ one_read (odd (bits / 2 ^ i)) bs → all_in_front (take (i + 1) (set items i z)) (spread (16 - (i + 1)) (bits / 2 ^ (i + 1)) after) ≡ target
  spread_more z after l o =
      ap (λ xs. all_in_front xs (spread (16 - (i + 1)) (bits / 2 ^ (i + 1)) after)) (take_more_set items i z (omega arith))
      ∙ one_more (take i items) z (spread (16 - (i + 1)) (bits / 2 ^ (i + 1)) after)
      ∙ ap (all_in_front (take i items)) (ap (number_then (spread (16 - (i + 1)) (bits / 2 ^ (i + 1)))) o ∙ sym next)
      ∙ e

  pub spread-stops : (f : Fault) → Err f ≡ one_read (odd (bits / 2 ^ i)) bs → Err f ≡ target
  spread-stops f o = ap (all_in_front (take i items)) (ap (number_then (spread (16 - (i + 1)) (bits / 2 ^ (i + 1)))) o ∙ sym next) ∙ e

pub spread_all : (i m : ℕ) (bs : List ℕ) (items : List ℤ) (target : Result (List ℤ × List ℕ) Fault) → 16 ≤ i → i ≤ 16 → length items ≡ 16 → all_in_front (take i items) (spread (16 - i) m bs) ≡ target → Ok (items, bs) ≡ target
spread_all i m bs items target h g l e =
    ap (λ xs. Ok (xs, bs)) (sym (append-nil items) ∙ ap (λ xs. xs ++ []) (sym (take_all i items (omega arith))))
    ∙ ap (λ k. all_in_front (take i items) (spread k m bs)) none
    ∙ e
  where
    none : 0 ≡ 16 - i
    none = omega arith

-- ---- the tests of a map, each by its place
abbrev pub spelt_at : ℕ → ℕ → ℕ × ℤ → Bool
spelt_at n m p = not (odd (m / 2 ^ p.0)) || (ltb p.0 n && not (eq_z p.1 (pos 0)))

tests_from : (n m i : ℕ) (vs : List ℤ) → map (spelt_at n m) (enumerate_from i vs) ≡ map_tests n i (m / 2 ^ i) vs
tests_from n m i [] = refl
tests_from n m i (v ∷ vs) = ap (λ ts. spelt_at n m (i, v) ∷ ts) (tests_from n m (i + 1) vs ∙ ap (λ k. map_tests n (i + 1) k vs) (sym (shr-shr m i 1)))

pub tests_by_place : (n m : ℕ) (vs : List ℤ) → map (spelt_at n m) (enumerate_from 0 vs) ≡ map_tests n 0 m vs
tests_by_place n m vs = tests_from n m 0 vs ∙ ap (λ k. map_tests n 0 k vs) (div-one m)

pub no_numbers : (r : Result (List ℤ × List ℕ) Fault) → all_in_front [] r ≡ r
no_numbers (Ok p) = refl
no_numbers (Err f) = refl
