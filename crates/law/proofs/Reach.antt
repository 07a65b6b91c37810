-- Accepted calls one after the other, and what it takes to shut the top of the pile.
use Rattle.std.proofs.Common.{◌≡◌, ℕ, List, [], ◌∷◌, ◌++◌, Option}
use mathlib.Core.Path.{subst⁻¹}
use Rattle.std.specs.List.{AllByRecursion}
use Rattle.terms.specs.Rows.{Plan, Row, opposite}
use Rattle.theories.specs.Meaning.{Meaning}
use Rattle.law.specs.Jobs.{Job, size}
use Rattle.law.specs.Calls.{Call}
use Rattle.law.specs.Calls.Call.{branch}
use Rattle.law.specs.Steps.{branch_checks}
use Rattle.law.specs.Pile.{Moment, Subproblem, moment, moved_top, table_checks}
use Rattle.law.specs.Moves.{Accepts, Leads}
use Rattle.law.specs.Moves.Leads.{here, then}
use Rattle.law.proofs.Clear.{Clear}
use Rattle.law.proofs.Outcomes.{accepts}

leads_on : (Move : Moment → Call → Moment → Type 0) (m k e : Moment) (cs ds : List Call) → Leads Move m cs k → Leads Move k ds e → Leads Move m (cs ++ ds) e
leads_on Move m k e [] ds here q = q
leads_on Move m k e (c ∷ cs) ds (then {k = n} s r) q = then s (leads_on Move n k e cs ds r q)

module _ (j : Job) (th : Meaning (List ℕ)) where
  -- some list of accepted calls leads from m to e
  abbrev pub Reaches : Moment → Moment → Type 0
  Reaches m e = (calls : List Call) × Leads (Accepts j th) m calls e

  pub reach_here : (m : Moment) → Reaches m m
  reach_here m = ([], here)

  pub reach_by : (t : Subproblem) (rest : List Subproblem) (taken : Option Plan) (c : Call) (e : Moment) → AllByRecursion Clear (table_checks j th t taken c) → Reaches (moved_top j th t rest taken c) e → Reaches (moment (t ∷ rest) taken) e
  reach_by t rest taken c e f r = (c ∷ r.0, then (accepts j th t rest taken c f) r.1)

  reach_on : (m k e : Moment) → Reaches m k → Reaches k e → Reaches m e
  reach_on m k e p q = (p.0 ++ q.0, leads_on (Accepts j th) m k e p.0 q.0 p.1 q.1)

  -- whatever lies below and whatever is taken, accepted calls take t off the pile
  abbrev pub Shuttable : Subproblem → Type 0
  Shuttable t = (rest : List Subproblem) (taken : Option Plan) → (new : Option Plan) × Reaches (moment (t ∷ rest) taken) (moment rest new)

  pub shut_by_lem : (t u : Subproblem) (c : Call) → ((taken : Option Plan) → AllByRecursion Clear (table_checks j th t taken c)) →
      ((rest : List Subproblem) (taken : Option Plan) → moved_top j th t rest taken c ≡ moment (u ∷ rest) taken) → Shuttable u → Shuttable t
  shut_by_lem t u c f m s rest taken =
      let r = s rest taken in
      (r.0, reach_by t rest taken c (moment rest r.0) (f taken) (subst⁻¹ (λ k. Reaches k (moment rest r.0)) (m rest taken) r.1))

  pub shut_halves : (t : Subproblem) (r : Row) → AllByRecursion Clear (branch_checks (size j) t r) → Shuttable (t ++ r ∷ []) → Shuttable (t ++ opposite r ∷ []) → Shuttable t
  shut_halves t r f s o rest taken =
      let lower = (t ++ opposite r ∷ []) ∷ rest in
      let p = s lower taken in let q = o rest p.0 in
      (q.0, reach_by t rest taken (branch r) (moment rest q.0) f (reach_on (moment ((t ++ r ∷ []) ∷ lower) taken) (moment lower p.0) (moment rest q.0) p.1 q.1))
