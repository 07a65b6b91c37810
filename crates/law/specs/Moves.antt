-- What may happen to the pile and the plan taken at a call, as a relation.
use Rattle.std.specs.Prelude.{◌≡◌, ℕ, List, [], ◌∷◌, ◌++◌, pos, ◌+ℤ◌, ◌-ℤ◌, ◌*ℤ◌, ◌≤ℤ◌, ◌<ℤ◌, Some, None, Option}
use Rattle.std.specs.List.{AllByRecursion}
use Rattle.terms.specs.declared.fault.Fault.{Fault}
use Rattle.terms.specs.Rows.{Plan, Row, difference_row, opposite}
use Rattle.theories.specs.Meaning.{Meaning, Rule}
use Rattle.law.specs.Jobs.{Job, cost, size}
use Rattle.law.specs.Calls.{Call, Line}
use Rattle.law.specs.Calls.Call.{branch, cut, chain, infer, cutoff, take, drop, pin}
use Rattle.law.specs.Lines.{summed, times}
use Rattle.law.specs.Pile.{Moment, Subproblem, checks, moment}

-- a call is accepted exactly when none of its checks applies, with the top of the pile as table
abbrev pub Accepted : Job → Meaning (List ℕ) → Moment → Call → Type 0
Accepted j th m c = AllByRecursion (λ (o : Option Fault). o ≡ None) (checks j th m c)

-- r is the line's sum divided: its coefficients without remainder, its right side rounded down
pub record Quotient (t : List Row) (l : Line) (r : Row) : Type 0 where
  pub exact : times (pos l.divisor) r.coefficients ≡ (summed t l.premises).coefficients
  pub down : (pos l.divisor *ℤ r.right) ≤ℤ (summed t l.premises).right
  pub no_further : (summed t l.premises).right <ℤ (pos l.divisor *ℤ (r.right +ℤ pos 1))

-- each line is divided over the table and the lines before it, and r is what the last gives
pub data Chained : List Row → List Line → Row → Type 0 where
  last_line : {t : List Row} {l : Line} {r : Row} → Quotient t l r → Chained t (l ∷ []) r
  next_line : {t : List Row} {l k : Line} {ls : List Line} {q r : Row} → Quotient t l q → Chained (t ++ q ∷ []) (k ∷ ls) r → Chained t (l ∷ k ∷ ls) r

-- the one row that a call adds to the table t
pub data Adds (j : Job) (th : Meaning (List ℕ)) (t : List Row) : Option Plan → Call → Row → Type 0 where
  by_cut : {taken : Option Plan} {l : Line} {r : Row} → Quotient t l r → Adds j th t taken (cut l) r
  by_chain : {taken : Option Plan} {ls : List Line} {r : Row} → Chained t ls r → Adds j th t taken (chain ls) r
  by_rule : {taken : Option Plan} {clue places : List ℕ} (u : Rule) → th.rule clue ≡ Some u → Adds j th t taken (infer clue places) (difference_row (size j) u.conclusion)
  by_cost : {y : Plan} → Adds j th t (Some y) cutoff (record { coefficients = j.costs; right = cost j y -ℤ pos 1 })

-- the calls that take the top away
pub data Shuts : Call → Type 0 where
  by_drop : {place : ℕ} → Shuts (drop place)
  by_pin : {places : List ℕ} → Shuts (pin places)

-- what an accepted call does
pub data Accepts (j : Job) (th : Meaning (List ℕ)) : Moment → Call → Moment → Type 0 where
  -- of two copies of the top, the upper gets the row and the lower its opposite
  branches : {t : Subproblem} {rest : List Subproblem} {taken : Option Plan} {r : Row} → Accepted j th (moment (t ∷ rest) taken) (branch r) →
      Accepts j th (moment (t ∷ rest) taken) (branch r) (moment ((t ++ r ∷ []) ∷ (t ++ opposite r ∷ []) ∷ rest) taken)
  -- a cut, chain, infer or cutoff adds its one row at the end of the top
  adds : {t : Subproblem} {rest : List Subproblem} {taken : Option Plan} {c : Call} {r : Row} → Accepted j th (moment (t ∷ rest) taken) c → Adds j th t taken c r →
      Accepts j th (moment (t ∷ rest) taken) c (moment ((t ++ r ∷ []) ∷ rest) taken)
  -- the plan becomes the plan taken, and the pile stays
  takes : {t : Subproblem} {rest : List Subproblem} {taken : Option Plan} {x : Plan} → Accepted j th (moment (t ∷ rest) taken) (take x) →
      Accepts j th (moment (t ∷ rest) taken) (take x) (moment (t ∷ rest) (Some x))
  -- a drop or pin takes the top away
  shuts : {t : Subproblem} {rest : List Subproblem} {taken : Option Plan} {c : Call} → Accepted j th (moment (t ∷ rest) taken) c → Shuts c →
      Accepts j th (moment (t ∷ rest) taken) c (moment rest taken)

-- what any call does: an accepted one its work, a refused one nothing
pub data Moves (j : Job) (th : Meaning (List ℕ)) : Moment → Call → Moment → Type 0 where
  accepted : {m e : Moment} {c : Call} → Accepts j th m c e → Moves j th m c e
  refused : {m : Moment} {c : Call} → (Accepted j th m c → ⊥) → Moves j th m c m

-- the calls lead from one moment to another, each by a move of the relation
pub data Leads (Move : Moment → Call → Moment → Type 0) : Moment → List Call → Moment → Type 0 where
  here : {m : Moment} → Leads Move m [] m
  then : {m k e : Moment} {c : Call} {cs : List Call} → Move m c k → Leads Move k cs e → Leads Move m (c ∷ cs) e
