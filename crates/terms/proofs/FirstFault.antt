-- The first fault of a list of tests, by the place of the first that fails.
use Rattle.std.proofs.Common.{◌≡◌, ℕ, ◌+◌, Bool, true, false, cond, not, List, [], ◌∷◌, map, Some, option_map, position, refl, ap, ◌∙◌}
use Rattle.std.specs.List.{position_from}
use Rattle.std.proofs.lemmas.Iterator.Adapters.{position_from-zero}
use Rattle.terms.specs.declared.fault.Cause.{Cause}
use Rattle.terms.specs.Faults.{fault, first_unless}

by-test : {A : Type 0} (p : A → Bool) (cause : Cause) (spot : ℕ) (xs : List A) (b : Bool) → option_map (fault cause) (position_from (λ x. not (p x)) (spot + 1) xs) ≡ first_unless cause (spot + 1) (map p xs) → option_map (fault cause) (cond (not b) (Some spot) (position_from (λ x. not (p x)) (spot + 1) xs)) ≡ first_unless cause spot (b ∷ map p xs)
by-test p cause spot xs true e = e
by-test p cause spot xs false e = refl

from : {A : Type 0} (p : A → Bool) (cause : Cause) (spot : ℕ) (xs : List A) → option_map (fault cause) (position_from (λ x. not (p x)) spot xs) ≡ first_unless cause spot (map p xs)
from p cause spot [] = refl
from p cause spot (x ∷ xs) = by-test p cause spot xs (p x) (from p cause (spot + 1) xs)

pub first_at : {A : Type 0} (p : A → Bool) (cause : Cause) (xs : List A) → option_map (fault cause) (position (λ x. not (p x)) xs) ≡ first_unless cause 0 (map p xs)
first_at p cause xs = ap (option_map (fault cause)) (position_from-zero (λ x. not (p x)) xs) ∙ from p cause 0 xs
