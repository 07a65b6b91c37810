-- Every call keeps the models that are still wanted.
use Rattle.std.proofs.Common.{◌≡◌, ℕ, ◌*◌, true, not, ◌||◌, eqb, List, [], ◌∷◌, map, length, pos, is_some, Some, None, Option, sym, refl, ap, ◌∙◌, subst, inl, inr, ⊎_elim, arith}
use lib.Signed.{le_z, lt_z}
use Rattle.std.specs.List.{AllByRecursion}
use Rattle.std.proofs.ByRecursion.{All-push}
use Rattle.std.proofs.lemmas.Int.{ints}
use Rattle.std.proofs.lemmas.Bool.{and_parts, both_ways, eqb-true, not-true, or_cases}
use Rattle.terms.specs.declared.fault.Cause.TheVariants.{NotAdmitted, NotCheaper, NotContradiction, NotFixed, PointStaysOpen, RowMissed, WrongLength}
use Rattle.terms.specs.declared.fault.Fault.{Fault}
use Rattle.terms.specs.Faults.{changed}
use Rattle.terms.specs.Rows.{Meets, Plan, Row, dot, meets, opposite, reads}
use Rattle.terms.proofs.Passed.{clash, unless_passed}
use Rattle.theories.specs.Meaning.{Lawful, Meaning}
use Rattle.theories.specs.Pairs.{every}
use Rattle.law.specs.Jobs.{Job, Model, size}
use Rattle.law.specs.Calls.{Call}
use Rattle.law.specs.Calls.Call.{branch, cut, chain, infer, cutoff, take, drop, pin}
use Rattle.law.specs.Lines.{last_made, made, no_row, row_at}
use Rattle.law.specs.Bounds.{all_zero, held_from, point}
use Rattle.law.specs.Steps.{cheaper, contradiction, cutoff_row, drop_checks, pin_checks, rule_row, shuts_at, take_checks}
use Rattle.law.specs.Pile.{Moment, Subproblem, after, moment, moved, moved_top, opened, refusal, step, table_checks, with_row}
use Rattle.law.specs.Law.{Kept, LiesIn, Wanted}
use Rattle.law.proofs.Clear.{Clear, Yes, all_clear, first_passed, yes_every}
use Rattle.law.proofs.Dots.{dot_all_zero, row_or_opposite}
use Rattle.law.proofs.Follows.{chain_met, cut_met, place_met, rule_met}
use Rattle.law.proofs.Points.{is_point}

-- ---- what a table's rows say as tests
pub lies_yes : (x : Plan) (t : List Row) → LiesIn t x → AllByRecursion Yes (map (meets x) t)
lies_yes x [] h = tt
lies_yes x (r ∷ t) h = let m : Meets x r = h.0 in (sym (omega (arith, ints)), lies_yes x t h.1)

pub yes_lies : (x : Plan) (t : List Row) → AllByRecursion Yes (map (meets x) t) → LiesIn t x
yes_lies x [] h = tt
yes_lies x (r ∷ t) h = let m : le_z (dot r.coefficients x) r.right ≡ true = h.0 in (omega (arith, ints), yes_lies x t h.1)

wanted_cheaper : (j : Job) (taken : Option Plan) (x : Plan) → Wanted j taken x → cheaper j taken x ≡ true
wanted_cheaper j None x w = refl
wanted_cheaper j (Some y) x w = sym (omega (arith, ints))

-- what is cheaper than a plan that is now taken was wanted before
wanted_before : (j : Job) (taken : Option Plan) (y x : Plan) → cheaper j taken y ≡ true → Wanted j (Some y) x → Wanted j taken x
wanted_before j None y x c w = tt
wanted_before j (Some z) y x c w = omega (arith, ints)

-- ---- why a top may be shut
not_at_contradiction : (t : List Row) (place : ℕ) (x : Plan) → LiesIn t x → AllByRecursion Clear (drop_checks t place) → ⊥
not_at_contradiction t place x h f =
    let g = and_parts (all_zero (row_at t place).coefficients) (lt_z (row_at t place).right (pos 0)) (unless_passed (contradiction (row_at t place)) NotContradiction 0 f.1.0) in
    omega (arith, ints, place_met x t place h, dot_all_zero (row_at t place).coefficients x g.0)

module _ (j : Job) (th : Meaning (List ℕ)) where
  not_at_shut-point : (t : List Row) (taken : Option Plan) (x : Plan) → Model j th x → Wanted j taken x → LiesIn t x → shuts_at j th t taken x ≡ true → ⊥
  not_at_shut-point t taken x m w h s =
      ⊎_elim (λ u. both_ways (every (map (meets x) t)) (not-true _ u) (yes_every _ (lies_yes x t h)))
      (λ u. ⊎_elim (λ v. both_ways (th.admits x) (not-true _ v) m.admitted) (λ v. both_ways (cheaper j taken x) (not-true _ v) (wanted_cheaper j taken x w))
      (or_cases (not (th.admits x)) (not (cheaper j taken x)) u))
      (or_cases (not (every (map (meets x) t))) (not (th.admits x) || not (cheaper j taken x)) s)

  not_pinned : (t : List Row) (taken : Option Plan) (places : List ℕ) (x : Plan) → Model j th x → Wanted j taken x → LiesIn t x → AllByRecursion Clear (pin_checks j th t taken places) → ⊥
  not_pinned t taken places x m w h f =
      let long : length places ≡ 2 * size j = eqb-true _ _ (unless_passed (eqb (length places) (2 * size j)) WrongLength 0 f.0) in
      let same = is_point (size j) 0 t places x x m.long h (λ k. ap (reads x) (omega arith)) (long ∙ ap (λ n. 2 * n) (sym m.long)) (first_passed NotFixed 0 (map is_some (held_from (size j) 0 t places)) f.1.1.0) in
      not_at_shut-point t taken x m w h (ap (shuts_at j th t taken) same ∙ unless_passed (shuts_at j th t taken (point (size j) t places)) PointStaysOpen 0 f.1.1.1.0)

  taken_is_model : (taken : Option Plan) (x : Plan) → AllByRecursion Clear (take_checks j th taken x) → Model j th x
  taken_is_model taken x f = record {
    long = eqb-true _ _ (unless_passed (eqb (length x) (size j)) WrongLength 0 f.0);
    meets = yes_lies x j.rows (first_passed RowMissed 0 (map (meets x) j.rows) f.1.1.0);
    admitted = unless_passed (th.admits x) NotAdmitted 0 f.1.1.1.0;
  }

  cutoff_met : (taken : Option Plan) (x : Plan) → Wanted j taken x → Meets x (cutoff_row j taken)
  cutoff_met None x w = omega (arith, ints)
  cutoff_met (Some y) x w = omega (arith, ints)

  -- ---- the pile
  -- a row that every wanted model of the top meets may join the top
  row_joins : (t : Subproblem) (rest : List Subproblem) (taken : Option Plan) (r : Row) → Kept j th (moment (t ∷ rest) taken) →
      ((x : Plan) → Model j th x → Wanted j taken x → LiesIn t x → Meets x r) → Kept j th (with_row t rest taken r)
  row_joins t rest taken r k f = record {
    still_open = λ x m w. ⊎_elim (λ h. inl (All-push (Meets x) t r h (f x m w h))) inr (k.still_open x m w);
    taken_model = k.taken_model;
  }

  -- a top without wanted models may go
  top_goes : (t : Subproblem) (rest : List Subproblem) (taken : Option Plan) → Kept j th (moment (t ∷ rest) taken) →
      ((x : Plan) → Model j th x → Wanted j taken x → LiesIn t x → ⊥) → Kept j th (moment rest taken)
  top_goes t rest taken k f = record {
    still_open = λ x m w. ⊎_elim (λ h. absurd (f x m w h)) (λ u. u) (k.still_open x m w);
    taken_model = k.taken_model;
  }

module _ (j : Job) (th : Meaning (List ℕ)) (law : Lawful th) where
  kept_moved : (t : Subproblem) (rest : List Subproblem) (taken : Option Plan) (c : Call) → Kept j th (moment (t ∷ rest) taken) →
      AllByRecursion Clear (table_checks j th t taken c) → Kept j th (moved_top j th t rest taken c)
  kept_moved t rest taken (branch r) k f = record {
    still_open = λ x m w. ⊎_elim
        (λ h. ⊎_elim (λ u. inl (All-push (Meets x) t r h u)) (λ u. inr (inl (All-push (Meets x) t (opposite r) h u))) (row_or_opposite r x))
        (λ u. inr (inr u)) (k.still_open x m w);
    taken_model = k.taken_model;
  }
  kept_moved t rest taken (cut l) k f = row_joins j th t rest taken (made t l) k (λ x m w h. cut_met x t l h f)
  kept_moved t rest taken (chain ls) k f = row_joins j th t rest taken (last_made no_row t ls) k (λ x m w h. chain_met x no_row 1 t ls (place_met x [] 0 tt) h f.1.1)
  kept_moved t rest taken (infer clue places) k f = row_joins j th t rest taken (rule_row (size j) (th.rule clue)) k (λ x m w h. rule_met j th law t clue places x m h f)
  kept_moved t rest taken cutoff k f = row_joins j th t rest taken (cutoff_row j taken) k (λ x m w h. cutoff_met j th taken x w)
  kept_moved t rest taken (take y) k f = record {
    still_open = λ x m w. k.still_open x m (wanted_before j taken y x (unless_passed (cheaper j taken y) NotCheaper 0 f.1.1.1.1.0) w);
    taken_model = λ z e. let same : y ≡ z = cc in subst (Model j th) same (taken_is_model j th taken y f);
  }
  kept_moved t rest taken (drop place) k f = top_goes j th t rest taken k (λ x m w h. not_at_contradiction t place x h f)
  kept_moved t rest taken (pin places) k f = top_goes j th t rest taken k (λ x m w h. not_pinned j th t taken places x m w h f)

  kept_answer : (pile : List Subproblem) (taken : Option Plan) (c : Call) (o : Option Fault) → refusal j th (moment pile taken) c ≡ o →
      Kept j th (moment pile taken) → Kept j th (changed o (moment pile taken) (moved j th (moment pile taken) c)).0
  kept_answer pile taken c (Some f) e k = k
  kept_answer [] taken c None e k = k
  kept_answer (t ∷ rest) taken c None e k = kept_moved t rest taken c k (all_clear (table_checks j th t taken c) e)

  pub kept_step : (m : Moment) (c : Call) → Kept j th m → Kept j th (step j th m c)
  kept_step m c k = kept_answer m.pile m.taken c (refusal j th m c) refl k

  kept_calls : (m : Moment) (cs : List Call) → Kept j th m → Kept j th (after j th m cs)
  kept_calls m [] k = k
  kept_calls m (c ∷ cs) k = kept_calls (step j th m c) cs (kept_step m c k)

  kept_opened : Kept j th (opened j)
  kept_opened = record { still_open = λ x m w. inl m.meets; taken_model = λ y e. clash (cc) }

  pub kept_after : (cs : List Call) → Kept j th (after j th (opened j) cs)
  kept_after cs = kept_calls (opened j) cs kept_opened
