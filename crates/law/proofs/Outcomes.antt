-- What the steps give is where the calls lead, and nowhere else.
use Rattle.std.proofs.Common.{◌≡◌, ℕ, List, [], ◌∷◌, Some, None, Option, sym, refl, ap, ◌∙◌, subst}
use Rattle.std.specs.List.{AllByRecursion}
use Rattle.terms.specs.declared.fault.Fault.{Fault}
use Rattle.terms.specs.Faults.{changed}
use Rattle.terms.specs.Rows.{Plan, Row}
use Rattle.terms.proofs.Passed.{clash}
use Rattle.theories.specs.Meaning.{Meaning, Rule}
use Rattle.law.specs.Jobs.{Job, size}
use Rattle.law.specs.Calls.{Call}
use Rattle.law.specs.Calls.Call.{branch, cut, chain, infer, cutoff, take, drop, pin}
use Rattle.law.specs.Lines.{no_row}
use Rattle.law.specs.Steps.{rule_checks, rule_row}
use Rattle.law.specs.Pile.{Moment, Subproblem, after, checks, moment, moved, moved_top, opened, refusal, step, table_checks, with_row}
use Rattle.law.specs.Moves.{Accepted, Accepts, Adds, Leads, Moves, Shuts}
use Rattle.law.specs.Moves.Adds.{by_cut, by_chain, by_rule, by_cost}
use Rattle.law.specs.Moves.Shuts.{by_drop, by_pin}
use Rattle.law.specs.Moves.Accepts.{branches, adds, takes, shuts}
use Rattle.law.specs.Moves.Moves.{accepted, refused}
use Rattle.law.specs.Moves.Leads.{here, then}
use Rattle.law.specs.Law.{OneOutcome}
use Rattle.law.proofs.Clear.{Clear, all_clear, none_first}
use Rattle.law.proofs.Quotients.{chain_chained, chain_once, cut_once, cut_quotient}

module _ (j : Job) (th : Meaning (List ℕ)) where
  -- ---- from the steps to the relation
  rule_adds : (t : List Row) (taken : Option Plan) (clue places : List ℕ) (o : Option Rule) → th.rule clue ≡ o → AllByRecursion Clear (rule_checks (size j) t o places) → Adds j th t taken (infer clue places) (rule_row (size j) o)
  rule_adds t taken clue places None e f = clash (let z = f.0 in cc)
  rule_adds t taken clue places (Some u) e f = by_rule u e

  pub accepts : (t : Subproblem) (rest : List Subproblem) (taken : Option Plan) (c : Call) → AllByRecursion Clear (table_checks j th t taken c) → Accepts j th (moment (t ∷ rest) taken) c (moved_top j th t rest taken c)
  accepts t rest taken (branch r) f = branches f
  accepts t rest taken (cut l) f = adds f (by_cut (cut_quotient t l f))
  accepts t rest taken (chain []) f = clash (let z = f.0 in cc)
  accepts t rest taken (chain (l ∷ ls)) f = adds f (by_chain (chain_chained no_row 1 t l ls f.1.1))
  accepts t rest taken (infer clue places) f = adds f (rule_adds t taken clue places (th.rule clue) refl f)
  accepts t rest None cutoff f = clash (let z = f.0 in cc)
  accepts t rest (Some y) cutoff f = adds f by_cost
  accepts t rest taken (take x) f = takes f
  accepts t rest taken (drop place) f = shuts f by_drop
  accepts t rest taken (pin places) f = shuts f by_pin

  not-accepted : (m : Moment) (c : Call) (f : Fault) → refusal j th m c ≡ Some f → Accepted j th m c → ⊥
  not-accepted m c f e a = let none = none_first (checks j th m c) a in clash (cc)

  moves_by : (pile : List Subproblem) (taken : Option Plan) (c : Call) (o : Option Fault) → refusal j th (moment pile taken) c ≡ o →
      Moves j th (moment pile taken) c (changed o (moment pile taken) (moved j th (moment pile taken) c)).0
  moves_by pile taken c (Some f) e = refused (not-accepted (moment pile taken) c f e)
  moves_by [] taken c None e = clash (cc)
  moves_by (t ∷ rest) taken c None e = accepted (accepts t rest taken c (all_clear (table_checks j th t taken c) e))

  step_moves : (m : Moment) (c : Call) → Moves j th m c (step j th m c)
  step_moves m c = moves_by m.pile m.taken c (refusal j th m c) refl

  steps_lead : (m : Moment) (cs : List Call) → Leads (Moves j th) m cs (after j th m cs)
  steps_lead m [] = here
  steps_lead m (c ∷ cs) = then (step_moves m c) (steps_lead (step j th m c) cs)

  -- ---- and back
  adds_is : (t : Subproblem) (rest : List Subproblem) (taken : Option Plan) (c : Call) (r : Row) → AllByRecursion Clear (table_checks j th t taken c) → Adds j th t taken c r → moved_top j th t rest taken c ≡ with_row t rest taken r
  adds_is t rest taken c r f (by_cut {l = l} d) = ap (with_row t rest taken) (cut_once t l r f d)
  adds_is t rest taken c r f (by_chain {ls = ls} d) = ap (with_row t rest taken) (chain_once no_row 1 t ls r f.1.1 d)
  adds_is t rest taken c r f (by_rule u e) = ap (λ (o : Option Rule). with_row t rest taken (rule_row (size j) o)) e
  adds_is t rest taken c r f by_cost = refl

  shuts_is : (t : Subproblem) (rest : List Subproblem) (taken : Option Plan) (c : Call) → Shuts c → moved_top j th t rest taken c ≡ moment rest taken
  shuts_is t rest taken c by_drop = refl
  shuts_is t rest taken c by_pin = refl

  step-accepted : (t : Subproblem) (rest : List Subproblem) (taken : Option Plan) (c : Call) → AllByRecursion Clear (table_checks j th t taken c) → step j th (moment (t ∷ rest) taken) c ≡ moved_top j th t rest taken c
  step-accepted t rest taken c f = ap (λ o. (changed o (moment (t ∷ rest) taken) (moved_top j th t rest taken c)).0) (none_first (table_checks j th t taken c) f)

  step_refused : (m : Moment) (c : Call) (o : Option Fault) → refusal j th m c ≡ o → (Accepted j th m c → ⊥) → (changed o m (moved j th m c)).0 ≡ m
  step_refused m c (Some f) e no' = refl
  step_refused m c None e no' = absurd (no' (all_clear (checks j th m c) e))

  accepts_is : (m : Moment) (c : Call) (e : Moment) → Accepts j th m c e → step j th m c ≡ e
  accepts_is m c e (branches {t = t} {rest = rest} {taken = taken} {r = r} f) = step-accepted t rest taken (branch r) f
  accepts_is m c e (adds {t = t} {rest = rest} {taken = taken} {r = r} f a) = step-accepted t rest taken c f ∙ adds_is t rest taken c r f a
  accepts_is m c e (takes {t = t} {rest = rest} {taken = taken} {x = x} f) = step-accepted t rest taken (take x) f
  accepts_is m c e (shuts {t = t} {rest = rest} {taken = taken} f h) = step-accepted t rest taken c f ∙ shuts_is t rest taken c h

  moves_is : (m : Moment) (c : Call) (e : Moment) → Moves j th m c e → step j th m c ≡ e
  moves_is m c e (accepted a) = accepts_is m c e a
  moves_is m c e (refused no') = step_refused m c (refusal j th m c) refl no'

  leads_is : (m : Moment) (cs : List Call) (e : Moment) → Leads (Moves j th) m cs e → after j th m cs ≡ e
  leads_is m [] e here = refl
  leads_is m (c ∷ cs) e (then {k = k} s r) = ap (λ (q : Moment). after j th q cs) (moves_is m c k s) ∙ leads_is k cs e r

  pub one_outcome : OneOutcome j th
  one_outcome calls m =
      (λ l. sym (leads_is (opened j) calls m l), λ e. subst (λ (q : Moment). Leads (Moves j th) (opened j) calls q) (sym e) (steps_lead (opened j) calls))
