-- What std says of lists, in the words of the theories.
use Rattle.std.proofs.Common.{◌≡◌, ℕ, zero, suc, ◌≤◌, Bool, ◌&&◌, not, ltb, eqb, List, [], ◌∷◌, map, Some, None, Option, refl, sym, ap, ◌∙◌, ⊎_elim, arith}
use Rattle.std.specs.Borrow.{Bor}
use Rattle.std.specs.List.{list_all, slice_get}
use Rattle.std.specs.Option.{ok_or, option_copied}
use Rattle.std.specs.Slice.{IsItemAt}
use Rattle.std.proofs.lemmas.Bool.{eq-eqb, le-ltb, lt-ltb, ne_eqb}
use Rattle.std.proofs.lemmas.Option.{slice_get_past, slice_get_read}
use Rattle.std.proofs.Math.Nat.{eq-or-lt_of_le}
use Rattle.terms.specs.declared.difference.Difference.{Difference}
use Rattle.theories.specs.Meaning.{difference_at, no_rule}
use Rattle.theories.specs.Pairs.{every}

pub every_all : {A : Type 0} (f : A → Bool) (xs : List A) → list_all f xs ≡ every (map f xs)
every_all f [] = refl
every_all f (x ∷ xs) = ap (λ b. f x && b) (every_all f xs)

-- the difference at an index, or the refusal
of_got : (ds : List Difference) (i : ℕ) → ok_or (slice_get ds i) no_rule ≡ difference_at ds i
of_got [] i = refl
of_got (d ∷ ds) zero = refl
of_got (d ∷ ds) (suc i) = of_got ds i

got : {X : Type 0} (xs : List X) (i : ℕ) (r : Option (Bor X)) → IsItemAt xs i r → option_copied r ≡ slice_get xs i
got xs i None is = sym (slice_get_past xs i is.3)
got xs i (Some x) is = sym (slice_get_read xs _ i x.now refl is.3.0 is.1)

pub difference_got : (ds : List Difference) (i : ℕ) (r : Option (Bor Difference)) → IsItemAt ds i r → ok_or (option_copied r) no_rule ≡ difference_at ds i
difference_got ds i r is = ap (λ o. ok_or o no_rule) (got ds i r is) ∙ of_got ds i

-- room for one more is the same as not being full
pub has_room : (n : ℕ) → n ≤ 16 → not (eqb n 16) ≡ ltb n 16
has_room n h =
    ⊎_elim (λ f. ap not (eq-eqb n 16 f) ∙ sym (le-ltb n 16 (omega arith)))
    (λ l. ap not (ne_eqb n 16 (λ f. omega arith)) ∙ sym (lt-ltb n 16 l))
    (eq-or-lt_of_le h)
