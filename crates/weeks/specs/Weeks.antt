-- Known weeks: what each call answers, the newest row after it and the verdict at the end; and which plans a theory admits.
use Rattle.std.specs.Prelude.{◌≡◌, ℕ, Bool, true, false, List, [], ◌∷◌, ℤ, pos, negsuc, Some, None, Option}
use Rattle.std.specs.List.{AllByRecursion}
use Rattle.terms.specs.declared.fault.Cause.TheVariants.{NotDivisible, OutOfRange}
use Rattle.terms.specs.declared.fault.Fault.{Fault}
use Rattle.terms.specs.Faults.{fault}
use Rattle.terms.specs.Rows.{Plan, Row}
use Rattle.theories.specs.Bare.{bare, no_bytes}
use Rattle.theories.specs.Clues.{two_bytes}
use Rattle.theories.specs.Meaning.{Meaning, on_bytes}
use Rattle.theories.specs.OneVat.{one_vat}
use Rattle.law.specs.Jobs.{Job}
use Rattle.law.specs.Calls.{Call}
use Rattle.law.specs.declared.premise.Premise.{Premise}
use Rattle.law.specs.Calls.Call.{branch, cut, infer, cutoff, take, drop, pin}
use Rattle.law.specs.Pile.{Moment, Subproblem, Verdict, opened, refusal, step, verdict}
use Rattle.law.specs.Pile.Verdict.{least, none, unfinished}

-- a call, the fault that it answers, if any, and the newest row after it
pub record Turn : Type 0 where
  pub call : Call
  pub refused : Option Fault
  pub newest : Option Row

-- a run of calls on a newly opened proof up to its verdict, or a plan and whether it is admitted
pub data Week : Type 0 where
  goes : Job → Meaning (List ℕ) → List Turn → Verdict → Week
  admits : Meaning (List ℕ) → Plan → Bool → Week

-- ---- what it is to go as known
abbrev pub last_row : Subproblem → Option Row
last_row [] = None
last_row (r ∷ []) = Some r
last_row (r ∷ s ∷ rows) = last_row (s ∷ rows)

-- the last row of the current subproblem
abbrev pub newest_row : List Subproblem → Option Row
newest_row [] = None
newest_row (t ∷ rest) = last_row t

abbrev pub Runs : Job → Meaning (List ℕ) → Moment → List Turn → Verdict → Type 0
Runs j th m [] v = verdict j m ≡ v
Runs j th m (turn ∷ turns) v = let next = step j th m turn.call in
    (refusal j th m turn.call ≡ turn.refused) × (newest_row next.pile ≡ turn.newest) × Runs j th next turns v

abbrev pub AsKnown : Week → Type 0
AsKnown (goes j th turns v) = Runs j th (opened j) turns v
AsKnown (admits th x b) = th.admits x ≡ b

-- ---- words of the list
abbrev row : List ℤ → ℤ → Row
row coefficients right = record { coefficients = coefficients; right = right }

abbrev passes : Call → Row → Turn
passes call newest = record { call = call; refused = None; newest = Some newest }

-- the call leaves no row to be seen
abbrev ends : Call → Turn
ends call = record { call = call; refused = None; newest = None }

abbrev stops : Call → Fault → Row → Turn
stops call f newest = record { call = call; refused = Some f; newest = Some newest }

-- a row so many times, and a line of them
infixl 80 ◌of◌
abbrev ◌of◌ : ℕ → ℕ → Premise
multiplier of place = record { place = place; multiplier = multiplier }

abbrev by : List Premise → ℕ → Call
by premises divisor = cut (record { premises = premises; divisor = divisor })

abbrev no_theory : Meaning (List ℕ)
no_theory = on_bytes no_bytes bare

-- one variable and one row
abbrev single : ℤ → ℤ → Job
single coefficient right = record { costs = pos 1 ∷ []; rows = row (coefficient ∷ []) right ∷ [] }

-- a row 2v ≤ r by 2
abbrev halved : ℤ → ℤ → Week
halved right half = goes (single (pos 2) right) no_theory (passes (by (1 of 0 ∷ []) 2) (row (pos 1 ∷ []) half) ∷ []) (unfinished None)

-- two batches, of lengths 3 and 2, that start at the two variables
abbrev two_batches : Meaning (List ℕ)
two_batches = on_bytes two_bytes (one_vat (record { start = 0; duration = 3 } ∷ record { start = 1; duration = 2 } ∷ []))

-- both start at 0 or later, and the sum of the starts is the cost
abbrev early : Job
early = record { costs = pos 1 ∷ pos 1 ∷ []; rows = row (negsuc 0 ∷ pos 0 ∷ []) (pos 0) ∷ row (pos 0 ∷ negsuc 0 ∷ []) (pos 0) ∷ [] }

-- ---- the list
abbrev pub weeks : List Week
weeks =
    halved (negsuc 1) (negsuc 0)
    ∷ halved (negsuc 0) (negsuc 0)
    ∷ halved (pos 0) (pos 0)
    ∷ halved (pos 1) (pos 0)
    ∷ goes (single (pos 3) (pos 5)) no_theory (stops (by (1 of 0 ∷ []) 2) (fault NotDivisible 0) (row (pos 3 ∷ []) (pos 5)) ∷ []) (unfinished None)
    ∷ goes (single (pos 1) (pos 5)) no_theory
    (passes (by (10000 of 0 ∷ []) 1) (row (pos 10000 ∷ []) (pos 50000))
    ∷ stops (by (0 of 0 ∷ []) 1) (fault OutOfRange 0) (row (pos 10000 ∷ []) (pos 50000))
    ∷ stops (by (10001 of 0 ∷ []) 1) (fault OutOfRange 0) (row (pos 10000 ∷ []) (pos 50000))
    ∷ [])
    (unfinished None)
    ∷ goes (single (pos 1) (pos 5)) no_theory
    (passes (branch (row (pos 1 ∷ []) (pos 19999999999999))) (row (pos 1 ∷ []) (pos 19999999999999))
    ∷ stops (branch (row (pos 1 ∷ []) (pos 20000000000000))) (fault OutOfRange 1) (row (pos 1 ∷ []) (pos 19999999999999))
    ∷ [])
    (unfinished None)
    ∷ admits two_batches (pos 0 ∷ pos 3 ∷ []) true
    ∷ admits two_batches (pos 2 ∷ pos 0 ∷ []) true
    ∷ admits two_batches (pos 0 ∷ pos 2 ∷ []) false
    ∷ goes (record { costs = []; rows = [] }) no_theory (ends (take []) ∷ ends (pin []) ∷ []) (least [] (pos 0))
    ∷ goes (record { costs = []; rows = row [] (negsuc 0) ∷ [] }) no_theory (ends (drop 0) ∷ []) none
    ∷ goes early two_batches
    (passes (take (pos 2 ∷ pos 0 ∷ [])) (row (pos 0 ∷ negsuc 0 ∷ []) (pos 0))
    ∷ passes cutoff (row (pos 1 ∷ pos 1 ∷ []) (pos 1))
    ∷ passes (by (1 of 2 ∷ 2 of 0 ∷ []) 1) (row (negsuc 0 ∷ pos 1 ∷ []) (pos 1))
    ∷ passes (infer (0 ∷ 1 ∷ []) (3 ∷ [])) (row (negsuc 0 ∷ pos 1 ∷ []) (negsuc 1))
    ∷ passes (by (1 of 2 ∷ 1 of 4 ∷ []) 2) (row (pos 0 ∷ pos 1 ∷ []) (negsuc 0))
    ∷ passes (by (1 of 1 ∷ 1 of 5 ∷ []) 1) (row (pos 0 ∷ pos 0 ∷ []) (negsuc 0))
    ∷ ends (drop 6)
    ∷ [])
    (least (pos 2 ∷ pos 0 ∷ []) (pos 2))
    ∷ []

abbrev pub WeeksKnown : Type 0
WeeksKnown = AllByRecursion AsKnown weeks
