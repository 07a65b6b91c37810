-- The first place of a list at which a test fails, where a loop goes over the places.
use Rattle.std.proofs.Common.{◌≡◌, ℕ, ◌+◌, ◌<◌, ◌≤◌, Bool, true, false, List, ◌∷◌, map, length, get_or, drop, Some, None, ap, ◌∙◌}
use Rattle.std.proofs.lemmas.List.{drop_more, drop_all}
use Rattle.terms.specs.declared.fault.Cause.{Cause}
use Rattle.terms.specs.Faults.{fault, first_unless}

module _ {A : Type 0} (f : A → Bool) (d : A) (cause : Cause) (xs : List A) (i : ℕ) where
  pub first_more : i < length xs → f (get_or xs i d) ≡ true → first_unless cause i (map f (drop i xs)) ≡ first_unless cause (i + 1) (map f (drop (i + 1) xs))
  first_more h e = ap (λ ys. first_unless cause i (map f ys)) (drop_more xs i d h) ∙ ap (λ b. first_unless cause i (b ∷ map f (drop (i + 1) xs))) e

  pub first_stop : i < length xs → f (get_or xs i d) ≡ false → first_unless cause i (map f (drop i xs)) ≡ Some (fault cause i)
  first_stop h e = ap (λ ys. first_unless cause i (map f ys)) (drop_more xs i d h) ∙ ap (λ b. first_unless cause i (b ∷ map f (drop (i + 1) xs))) e

  pub first_all : length xs ≤ i → first_unless cause i (map f (drop i xs)) ≡ None
  first_all h = ap (λ ys. first_unless cause i (map f ys)) (drop_all i xs h)
