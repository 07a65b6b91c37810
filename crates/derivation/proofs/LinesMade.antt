-- What the checks of a line's numbers and places say of it, and the row that it makes.
use Rattle.std.proofs.Common.{◌≡◌, ℕ, ◌<◌, ◌≤◌, Bool, true, ltb, leb, List, [], ◌∷◌, map, length, get_or, Some, None, sym, refl, ap, ◌∙◌, ⊎_elim, arith}
use mathlib.Core.Path.{subst⁻¹}
use Rattle.std.proofs.ByRecursion.{All-get_or}
use Rattle.std.proofs.lemmas.List.{get_or-map, get_or_past, length-map}
use Rattle.std.proofs.lemmas.Bool.{and_parts, cases_lt, leb-true, ltb-true}
use Rattle.terms.specs.declared.fault.Cause.{Cause}
use Rattle.terms.specs.declared.fault.Cause.TheVariants.{NoSuchPlace, OutOfRange, WrongLength}
use Rattle.terms.specs.declared.fault.Fault.{Fault}
use Rattle.terms.specs.declared.row.Row.{Row as Stored}
use Rattle.terms.specs.Faults.{first_fault, first_unless, unless}
use Rattle.terms.specs.Limits.{million}
use Rattle.terms.specs.Rows.{Row}
use Rattle.terms.specs.Stored.{row_of}
use Rattle.terms.proofs.Passed.{pass_one, parts_passed, stop_one, unless_passed}
use Rattle.law.specs.declared.premise.Premise.{Premise}
use Rattle.law.specs.Calls.{Line}
use Rattle.law.specs.Lines.{between, divisor_check, made_checks, number_checks, places_check, summed}
use Rattle.law.proofs.Clear.{Yes, first_passed}
use Rattle.derivation.specs.Sums.{Divided, Made, divided, divided_checks, no_premise, table_of}

-- each element passes a test that no element fails
pub each_passed : {A : Type 0} (f : A → Bool) (cause : Cause) (xs : List A) (d : A) → first_unless cause 0 (map f xs) ≡ None → (i : ℕ) → i < length xs → f (get_or xs i d) ≡ true
each_passed f cause xs d e i h =
    sym (get_or-map f xs i d true h) ∙ All-get_or Yes (map f xs) i true (omega (arith, length-map xs f)) (first_passed cause 0 (map f xs) e)

between_parts : (low high n : ℕ) → between low high n ≡ true → (low ≤ n) × (n ≤ high)
between_parts low high n e = let p = and_parts (leb low n) (leb n high) e in (leb-true low n p.0, leb-true n high p.1)

-- a line whose numbers pass
pub record Numbers (l : Line) : Type 0 where
  pub some : 0 < length l.premises
  pub few : length l.premises ≤ 32
  pub multipliers : (i : ℕ) → (get_or l.premises i no_premise).multiplier ≤ 10000
  pub positive : 0 < l.divisor

pub numbered : (l : Line) → first_fault (number_checks l) ≡ None → Numbers l
numbered l e =
    let ps = l.premises in
    let a = parts_passed (unless (between 1 32 (length ps)) WrongLength 0) _ e in
    let b = parts_passed (first_unless OutOfRange 0 (map (λ p. between 1 10000 p.multiplier) ps)) _ a.1 in
    let c = parts_passed (divisor_check l) [] b.1 in
    let count = between_parts 1 32 (length ps) (unless_passed (between 1 32 (length ps)) WrongLength 0 a.0) in
    let d = between_parts 1 million l.divisor (unless_passed (between 1 million l.divisor) OutOfRange (length ps) c.0) in
    record {
      some = omega (arith, count.0);
      few = count.1;
      multipliers = λ i. ⊎_elim
          (λ (h : i < length ps). (between_parts 1 10000 (get_or ps i no_premise).multiplier (each_passed (λ (p : Premise). between 1 10000 p.multiplier) OutOfRange ps no_premise b.0 i h)).1)
          (λ (h : length ps ≤ i). subst⁻¹ (λ (p : Premise). p.multiplier ≤ 10000) (get_or_past ps i no_premise h) (omega arith))
          (cases_lt i (length ps));
      positive = omega (arith, d.0);
    }

-- ---- places
map_places : (count : ℕ) (ps : List Premise) → map (λ p. ltb p count) (map (λ (q : Premise). q.place) ps) ≡ map (λ (q : Premise). ltb q.place count) ps
map_places count [] = refl
map_places count (p ∷ ps) = ap (λ bs. ltb p.place count ∷ bs) (map_places count ps)

pub places_check_lem : (n : ℕ) (rows : List Stored) (ps : List Premise) →
    places_check (table_of n rows) (map (λ (q : Premise). q.place) ps) ≡ first_unless NoSuchPlace 0 (map (λ (q : Premise). ltb q.place (length rows)) ps)
places_check_lem n rows ps =
    ap (λ k. first_unless NoSuchPlace 0 (map (λ p. ltb p k) (map (λ (q : Premise). q.place) ps))) (length-map rows (row_of n)) ∙ ap (first_unless NoSuchPlace 0) (map_places (length rows) ps)

pub place_below : (count : ℕ) (ps : List Premise) → first_unless NoSuchPlace 0 (map (λ (q : Premise). ltb q.place count) ps) ≡ None → (i : ℕ) → i < length ps → (get_or ps i no_premise).place < count
place_below count ps e i h = ltb-true (get_or ps i no_premise).place count (each_passed (λ (q : Premise). ltb q.place count) NoSuchPlace ps no_premise e i h)

-- ---- the row
module _ (n : ℕ) (rows : List Stored) (l : Line) where
  abbrev t : List Row
  t = table_of n rows

  abbrev tests : List Bool
  tests = map (λ (q : Premise). ltb q.place (length rows)) l.premises

  pub places_stop : (f : Fault) → first_unless NoSuchPlace 0 tests ≡ Some f → first_fault (made_checks t l) ≡ Some f
  places_stop f e = stop_one (places_check t (map (λ (q : Premise). q.place) l.premises)) _ f (places_check_lem n rows l.premises ∙ e)

  module _ (k : ℕ) (s : Row) (e : first_unless NoSuchPlace 0 tests ≡ None) (is : s ≡ summed t l.premises) where
    checks_are : first_fault (made_checks t l) ≡ first_fault (divided_checks l.divisor s)
    checks_are =
        pass_one (places_check t (map (λ (q : Premise). q.place) l.premises)) _ (places_check_lem n rows l.premises ∙ e)
        ∙ sym (ap (λ (r : Row). first_fault (divided_checks l.divisor r)) is)

    pub line_made : k ≡ n → (row : Stored) → Divided k l.divisor s row → Made n t l row
    line_made same row d = record { passed = checks_are ∙ d.passed; is = ap (λ m. row_of m row) (sym same) ∙ d.is ∙ ap (divided l.divisor) is }

    pub line_stopped : (f : Fault) → first_fault (divided_checks l.divisor s) ≡ Some f → first_fault (made_checks t l) ≡ Some f
    line_stopped f d = checks_are ∙ d
