-- The checks of a rule's premises and their places, one after another.
use Rattle.std.proofs.Common.{◌≡◌, ℕ, ◌+◌, ◌-◌, ◌<◌, ◌≤◌, min, Bool, true, false, cond, eqb, leb, List, [], ◌∷◌, ◌++◌, map, length, take, replicate, ℤ, pos, Some, None, refl, ap, ◌∙◌, arith}
use Rattle.std.specs.List.{zip}
use Rattle.std.proofs.lemmas.List.{take_all, take-append-le}
use Rattle.std.proofs.lemmas.Bool.{cond-true, leb-true}
use Rattle.terms.specs.declared.fault.Cause.TheVariants.{Full, PlaceNotVariable, WrongLength}
use Rattle.terms.specs.declared.row.Row.{Row as Stored}
use Rattle.terms.specs.Faults.{first_fault, first_unless, unless}
use Rattle.terms.specs.Limits.{right_limit, within}
use Rattle.terms.specs.Rows.{Row, difference_row}
use Rattle.terms.specs.Stored.{padded, row_of, whole, wholes}
use Rattle.terms.proofs.ByPlace.{length-difference}
use Rattle.terms.proofs.Passed.{clash, parts_passed, unless_passed}
use Rattle.theories.specs.Meaning.{Rule}
use Rattle.law.specs.Lines.{room_check}
use Rattle.law.specs.Steps.{both_named, rule_checks}
use Rattle.derivation.specs.declared.rule.KnownRule.{KnownRule}

-- ---- pairs
pub pairs_read : {A B C : Type 0} (test : A → C → Bool) (f : B → C) (xs : List A) (ys : List B) → map (λ (q : A × B). test q.0 (f q.1)) (zip xs ys) ≡ map (λ (q : A × C). test q.0 q.1) (zip xs (map f ys))
pairs_read test f [] ys = refl
pairs_read test f (x ∷ xs) [] = refl
pairs_read test f (x ∷ xs) (y ∷ ys) = ap (λ bs. test x (f y) ∷ bs) (pairs_read test f xs ys)

-- ---- a rule that passed its checks
pub rule_room : (n : ℕ) (t : List Row) (u : Rule) (ps : List ℕ) → first_fault (rule_checks n t (Some u) ps) ≡ None → length t < 512
rule_room n t u ps e =
    let a = parts_passed (first_unless PlaceNotVariable 0 (map (both_named n) (u.premises ++ u.conclusion ∷ []))) _ e in
    let b = parts_passed (unless (eqb (length ps) (length u.premises)) WrongLength 0) _ a.1 in
    let c = parts_passed (room_check t 1) _ b.1 in
    omega (arith, leb-true (length t + 1) 512 (unless_passed (leb (length t + 1) 512) Full 0 c.0))

-- the row that joins the table is the conclusion's
pub conclusion_row : (n : ℕ) (k : KnownRule) (r : Stored) → n ≤ 16 →
    wholes (Some r) ≡ cond (within right_limit k.conclusion.most) (Some (record { coefficients = padded (difference_row (min n 16) k.conclusion).coefficients; right = k.conclusion.most })) None →
    row_of n r ≡ difference_row n k.conclusion
conclusion_row n k r h e =
    let d = k.conclusion in
    let f = e ∙ cond-true (within right_limit d.most) _ _ k.limited in
    let is : whole r ≡ record { coefficients = padded (difference_row (min n 16) d).coefficients; right = d.most } = cc in
    let m : min n 16 ≡ n = omega arith in
    let xs = (difference_row n d).coefficients in
    ap (λ (w : Row). record { coefficients = take n w.coefficients; right = w.right }) is
    ∙ ap (λ j. record { coefficients = take n (padded (difference_row j d).coefficients); right = d.most }) m
    ∙ ap (λ cs. record { coefficients = cs; right = d.most }) (front_of xs (replicate (16 - length xs) (pos 0)) n (length-difference n d))
  where
    front_of : (xs ys : List ℤ) (n : ℕ) → length xs ≡ n → take n (xs ++ ys) ≡ xs
    front_of xs ys n l = take-append-le n xs ys (omega arith) ∙ take_all n xs (omega arith)

-- nor is it none
pub is_there : {X : Type 0} (b : Bool) (x : X) → b ≡ true → None ≡ cond b (Some x) None → ⊥
is_there true x t e = clash (cc)
is_there false x t e = clash (cc)
