-- Tests of places one after another, as tests of the numbers that stand there.
use Rattle.std.proofs.Common.{◌≡◌, ℕ, suc, ◌+◌, ◌<◌, Bool, ◌&&◌, List, [], ◌∷◌, map, length, get_or, ℤ, pos, sym, refl, ap, ◌∙◌, ap₂, arith}
use Rattle.std.specs.List.{list_all, range_with_len}
use Rattle.theories.specs.Pairs.{every}

module _ (g : ℕ → Bool) where
  every_from : (f : ℤ → Bool) (xs : List ℤ) (a : ℕ) → ((i : ℕ) → i < length xs → g (a + i) ≡ f (get_or xs i (pos 0))) → list_all g (range_with_len a (length xs)) ≡ every (map f xs)
  every_from f [] a h = refl
  every_from f (x ∷ xs) a h =
      let here : a + 0 ≡ a = omega arith in
      ap₂ ◌&&◌ (sym (ap g here) ∙ h 0 (omega arith))
      (every_from f xs (a + 1) (λ i l. let next : a + 1 + i ≡ a + suc i = omega arith in ap g next ∙ h (suc i) (omega arith)))

  -- a test of each place is a test of each number
  pub every_place : (f : ℤ → Bool) (xs : List ℤ) (n : ℕ) → length xs ≡ n → ((i : ℕ) → g i ≡ f (get_or xs i (pos 0))) → list_all g (range_with_len 0 n) ≡ every (map f xs)
  every_place f xs n e h = sym (ap (λ k. list_all g (range_with_len 0 k)) e) ∙ every_from f xs 0 (λ i l. let here : 0 + i ≡ i = omega arith in ap g here ∙ h i)
