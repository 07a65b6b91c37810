-- Sums that are divided, one after another.
use Rattle.std.proofs.Common.{◌≡◌, ℕ, ◌+◌, ◌<◌, ◌≤◌, Bool, true, false, cond, Some, None, Option, Ok, Err, Result, refl, map, drop, List, [], ◌∷◌, ◌++◌, length, get_or, take, set, ℤ, pos, sym, ap, ◌∙◌, ap₂, arith}
use Rattle.std.proofs.lemmas.List.{get_or-map, drop_all, drop_more, length-map, take_more, take_more_set}
use Rattle.terms.specs.declared.fault.Cause.{Cause}
use Rattle.std.specs.Option.{ok_or}
use Rattle.terms.specs.declared.fault.Fault.{Fault}
use Rattle.terms.specs.Faults.{fault, first_unless}
use Rattle.terms.specs.Limits.{million, within}
use Rattle.terms.proofs.Passed.{clash}
use Rattle.law.specs.Lines.{floor}
use Rattle.derivation.specs.Sums.{quotients}

module _ (sums : List ℤ) (d i : ℕ) where
  pub quotients_long : length (quotients d sums) ≡ length sums
  quotients_long = length-map sums (λ c. floor c d)

  pub quotient_at : i < length sums → get_or (quotients d sums) i (pos 0) ≡ floor (get_or sums i (pos 0)) d
  quotient_at h = get_or-map (λ c. floor c d) sums i (pos 0) (pos 0) h

  pub quotient_written : (items : List ℤ) (q : ℤ) → i < length sums → length sums ≤ length items → q ≡ floor (get_or sums i (pos 0)) d → take i items ≡ take i (quotients d sums) → take (i + 1) (set items i q) ≡ take (i + 1) (quotients d sums)
  quotient_written items q h l e f =
      take_more_set items i q (omega arith)
      ∙ ap₂ (λ xs x. xs ++ x ∷ []) f (e ∙ sym (quotient_at h))
      ∙ sym (take_more (quotients d sums) i (pos 0) (omega (arith, quotients_long)))

-- ---- the steps of a loop that refuses at the first element that fails a test
module _ {A : Type 0} (f : A → Bool) (d : A) (cause : Cause) (xs : List A) (i : ℕ) where
  pub first_more : i < length xs → f (get_or xs i d) ≡ true → first_unless cause i (map f (drop i xs)) ≡ first_unless cause (i + 1) (map f (drop (i + 1) xs))
  first_more h e = ap (λ ys. first_unless cause i (map f ys)) (drop_more xs i d h) ∙ ap (λ b. first_unless cause i (b ∷ map f (drop (i + 1) xs))) e

  pub first_stop : i < length xs → f (get_or xs i d) ≡ false → first_unless cause i (map f (drop i xs)) ≡ Some (fault cause i)
  first_stop h e = ap (λ ys. first_unless cause i (map f ys)) (drop_more xs i d h) ∙ ap (λ b. first_unless cause i (b ∷ map f (drop (i + 1) xs))) e

  pub first_all : length xs ≤ i → first_unless cause i (map f (drop i xs)) ≡ None
  first_all h = ap (λ ys. first_unless cause i (map f ys)) (drop_all i xs h)

-- ---- what `coefficient` answers of a number, made a result
module _ (z : ℤ) (o : Option ℤ) (r : Result ℤ Fault) (f : Fault) (is : o ≡ cond (within million z) (Some z) None) (made : r ≡ ok_or o f) where
  by : {b : Bool} → within million z ≡ b → r ≡ ok_or (cond b (Some z) None) f
  by w = made ∙ ap (λ p. ok_or p f) is ∙ ap (λ b. ok_or (cond b (Some z) None) f) w

  pub refused_at : (e : Fault) → r ≡ Err e → (within million z ≡ false) × (e ≡ f)
  refused_at e h = go (within million z) refl
    where
      go : (b : Bool) → within million z ≡ b → (within million z ≡ false) × (e ≡ f)
      go true w = let g = by w in clash (cc)
      go false w = let g = by w in (w, cc)

  pub kept_at : (q : ℤ) → r ≡ Ok q → (within million z ≡ true) × (q ≡ z)
  kept_at q h = go (within million z) refl
    where
      go : (b : Bool) → within million z ≡ b → (within million z ≡ true) × (q ≡ z)
      go true w = let g = by w in (w, cc)
      go false w = let g = by w in clash (cc)
