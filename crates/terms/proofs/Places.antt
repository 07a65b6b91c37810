-- Lists in the front of an array: one element more, and what holds at every place.
use Rattle.std.proofs.Common.{◌≡◌, ℕ, zero, suc, ◌+◌, ◌<◌, List, [], ◌∷◌, ◌++◌, length, get_or, take, set, None, Ok, Option, Result, sym, ap, ◌∙◌}
use Rattle.std.proofs.lemmas.List.{take_more_set}
use Rattle.terms.specs.declared.fault.Fault.{Fault}
use Rattle.terms.specs.Faults.{changed}

-- what holds at every place still does after a write of an element of which it holds
pub at_set : {A : Type 0} (P : A → Type 0) (xs : List A) (i : ℕ) (a d : A) → P a → ((k : ℕ) → P (get_or xs k d)) → (k : ℕ) → P (get_or (set xs i a) k d)
at_set P [] i a d p h k = h k
at_set P (x ∷ xs) zero a d p h zero = p
at_set P (x ∷ xs) zero a d p h (suc k) = h (suc k)
at_set P (x ∷ xs) (suc i) a d p h zero = h 0
at_set P (x ∷ xs) (suc i) a d p h (suc k) = at_set P xs i a d p (λ j. h (suc j)) k

-- an accepted call leaves what it should
pub changed_as : {X : Type 0} (o : Option Fault) (before after now : X) → o ≡ None → now ≡ after → ◌≡◌ {A = X × Result (Unit {0}) Fault} (now, Ok tt) (changed o before after)
changed_as o before after now e f = ap (λ x. (x, Ok tt)) f ∙ sym (ap (λ p. changed p before after) e)

-- one element more at the front of an array
pub pushed_as : {A : Type 0} (o : Option Fault) (xs : List A) (n : ℕ) (a : A) → n < length xs → o ≡ None → ◌≡◌ {A = List A × Result (Unit {0}) Fault} (take (n + 1) (set xs n a), Ok tt) (changed o (take n xs) (take n xs ++ a ∷ []))
pushed_as o xs n a h e = changed_as o (take n xs) (take n xs ++ a ∷ []) _ e (take_more_set xs n a h)

-- what holds at every place of a list, and of what is read past its end, holds at every place of its front
pub at_front : {A : Type 0} (P : A → Type 0) (n : ℕ) (xs : List A) (d : A) → P d → ((k : ℕ) → P (get_or xs k d)) → (k : ℕ) → P (get_or (take n xs) k d)
at_front P zero xs d p h k = p
at_front P (suc n) [] d p h k = p
at_front P (suc n) (x ∷ xs) d p h zero = h 0
at_front P (suc n) (x ∷ xs) d p h (suc k) = at_front P n xs d p (λ j. h (suc j)) k
