-- The pile of open subproblems and the plan taken: what a call makes of them, and what closing says.
use Rattle.std.specs.Prelude.{ℕ, List, [], ◌∷◌, ◌++◌, ℤ, Some, None, Option, Result}
use Rattle.terms.specs.declared.fault.Cause.TheVariants.{NothingOpen}
use Rattle.terms.specs.declared.fault.Fault.{Fault}
use Rattle.terms.specs.Faults.{changed, fault, first_fault}
use Rattle.terms.specs.Rows.{Plan, Row, opposite}
use Rattle.theories.specs.Meaning.{Meaning}
use Rattle.law.specs.Jobs.{Job, cost, size}
use Rattle.law.specs.Calls.{Call}
use Rattle.law.specs.Calls.Call.{branch, cut, chain, infer, cutoff, take, drop, pin}
use Rattle.law.specs.Lines.{chain_checks, cut_checks, last_made, made, no_row}
use Rattle.law.specs.Steps.{branch_checks, cutoff_checks, cutoff_row, drop_checks, pin_checks, rule_checks, rule_row, take_checks}

-- ---- a moment
-- a subproblem is a list of rows
abbrev pub Subproblem : Type 0
Subproblem = List Row

-- the open subproblems, the top of the pile first, and the plan taken
pub record Moment : Type 0 where
  pub pile : List Subproblem
  pub taken : Option Plan

abbrev pub moment : List Subproblem → Option Plan → Moment
moment pile taken = record { pile = pile; taken = taken }

-- opening lays down one subproblem, the job's rows
abbrev pub opened : Job → Moment
opened j = moment (j.rows ∷ []) None

-- ---- the checks of a call, in their order
-- with t as table
abbrev pub table_checks : Job → Meaning (List ℕ) → List Row → Option Plan → Call → List (Option Fault)
table_checks j th t taken (branch r) = branch_checks (size j) t r
table_checks j th t taken (cut l) = cut_checks t l
table_checks j th t taken (chain ls) = chain_checks t ls
table_checks j th t taken (infer clue places) = rule_checks (size j) t (th.rule clue) places
table_checks j th t taken cutoff = cutoff_checks t taken
table_checks j th t taken (take x) = take_checks j th taken x
table_checks j th t taken (drop place) = drop_checks t place
table_checks j th t taken (pin places) = pin_checks j th t taken places

-- with the top of the pile as table
abbrev pub pile_checks : Job → Meaning (List ℕ) → List Subproblem → Option Plan → Call → List (Option Fault)
pile_checks j th [] taken c = Some (fault NothingOpen 0) ∷ []
pile_checks j th (t ∷ rest) taken c = table_checks j th t taken c

abbrev pub checks : Job → Meaning (List ℕ) → Moment → Call → List (Option Fault)
checks j th m c = pile_checks j th m.pile m.taken c

-- the first that applies
abbrev pub refusal : Job → Meaning (List ℕ) → Moment → Call → Option Fault
refusal j th m c = first_fault (checks j th m c)

-- ---- what an accepted call does
-- a row joins the top of the pile
abbrev pub with_row : List Row → List Subproblem → Option Plan → Row → Moment
with_row t rest taken r = moment ((t ++ r ∷ []) ∷ rest) taken

-- by the top of the pile and what lies below
abbrev pub moved_top : Job → Meaning (List ℕ) → List Row → List Subproblem → Option Plan → Call → Moment
moved_top j th t rest taken (branch r) = with_row t ((t ++ opposite r ∷ []) ∷ rest) taken r
moved_top j th t rest taken (cut l) = with_row t rest taken (made t l)
moved_top j th t rest taken (chain ls) = with_row t rest taken (last_made no_row t ls)
moved_top j th t rest taken (infer clue places) = with_row t rest taken (rule_row (size j) (th.rule clue))
moved_top j th t rest taken cutoff = with_row t rest taken (cutoff_row j taken)
moved_top j th t rest taken (take x) = moment (t ∷ rest) (Some x)
moved_top j th t rest taken (drop place) = moment rest taken
moved_top j th t rest taken (pin places) = moment rest taken

abbrev pub moved_pile : Job → Meaning (List ℕ) → List Subproblem → Option Plan → Call → Moment
moved_pile j th [] taken c = moment [] taken
moved_pile j th (t ∷ rest) taken c = moved_top j th t rest taken c

abbrev pub moved : Job → Meaning (List ℕ) → Moment → Call → Moment
moved j th m c = moved_pile j th m.pile m.taken c

-- ---- calls, refused ones among them
-- what a call leaves and answers; a refused one leaves all as it was
abbrev pub called : Job → Meaning (List ℕ) → Moment → Call → Moment × Result (Unit {0}) Fault
called j th m c = changed (refusal j th m c) m (moved j th m c)

abbrev pub step : Job → Meaning (List ℕ) → Moment → Call → Moment
step j th m c = (called j th m c).0

-- after a list of calls
abbrev pub after : Job → Meaning (List ℕ) → Moment → List Call → Moment
after j th m [] = m
after j th m (c ∷ cs) = after j th (step j th m c) cs

-- ---- closing
-- the plan taken and its cost; no model; or the plan taken so far, if any
pub data Verdict : Type 0 where
  least : Plan → ℤ → Verdict
  none : Verdict
  unfinished : Option Plan → Verdict

abbrev pub closed : Job → List Subproblem → Option Plan → Verdict
closed j [] (Some y) = least y (cost j y)
closed j [] None = none
closed j (t ∷ rest) taken = unfinished taken

abbrev pub verdict : Job → Moment → Verdict
verdict j m = closed j m.pile m.taken
