-- A test on every element of a list.
use Rattle.std.proofs.Common.{◌≡◌, ℕ, zero, suc, ◌+◌, ◌<◌, Bool, true, false, ◌&&◌, List, [], ◌∷◌, map, length, get_or, None, refl, ap, arith}
use Rattle.std.specs.List.{list_all}
use Rattle.terms.specs.declared.fault.Cause.{Cause}
use Rattle.terms.specs.Faults.{first_unless}
use Rattle.terms.proofs.Passed.{clash}
use Rattle.theories.specs.Pairs.{every}

pub every-list_all : {A : Type 0} (f : A → Bool) (xs : List A) → list_all f xs ≡ every (map f xs)
every-list_all f [] = refl
every-list_all f (x ∷ xs) = ap (λ b. f x && b) (every-list_all f xs)

module _ {A : Type 0} (f : A → Bool) (d : A) (cause : Cause) where
  by-test : (x : A) (xs : List A) (spot k : ℕ) (b : Bool) → f x ≡ b → first_unless cause spot (b ∷ map f xs) ≡ None → k < suc (length xs) → (first_unless cause (spot + 1) (map f xs) ≡ None → (j : ℕ) → j < length xs → f (get_or xs j d) ≡ true) → f (get_or (x ∷ xs) k d) ≡ true
  by-test x xs spot zero true w e h rest = w
  by-test x xs spot (suc k) true w e h rest = rest e k (omega arith)
  by-test x xs spot k false w e h rest = clash (cc)

  -- where no test fails, each passes
  pub passed_at : (spot : ℕ) (xs : List A) → first_unless cause spot (map f xs) ≡ None → (k : ℕ) → k < length xs → f (get_or xs k d) ≡ true
  passed_at spot [] e k h = absurd (omega arith)
  passed_at spot (x ∷ xs) e k h = by-test x xs spot k (f x) refl e h (λ g. passed_at (spot + 1) xs g)
