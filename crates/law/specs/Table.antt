-- What a proof holds: a table of rows, waiting heights, an open mark and the plan taken; and the pile that these stand for.
use Rattle.std.specs.Prelude.{◌≡◌, ℕ, ◌<◌, Bool, true, false, List, [], ◌∷◌, ◌++◌, map, length, take as firsts, Some, None, Option, Result}
use Rattle.terms.specs.declared.fault.Fault.{Fault}
use Rattle.terms.specs.Faults.{changed}
use Rattle.terms.specs.Rows.{Plan, Row, opposite}
use Rattle.theories.specs.Meaning.{Meaning}
use Rattle.law.specs.Jobs.{Job, size}
use Rattle.law.specs.Calls.{Call}
use Rattle.law.specs.Calls.Call.{branch, cut, chain, infer, cutoff, take, drop, pin}
use Rattle.law.specs.Lines.{last_made, made, no_row, row_at}
use Rattle.law.specs.Steps.{cutoff_row, rule_row}
use Rattle.law.specs.Pile.{Moment, Subproblem, after, opened, refusal}

-- the heights from the newest
pub record Holding : Type 0 where
  pub table : List Row
  pub heights : List ℕ
  pub mark : Bool
  pub taken : Option Plan

-- ---- what it stands for
-- the subproblem of a waiting height: the rows below it, and the opposite of the row there
abbrev pub waiting : List Row → ℕ → Subproblem
waiting t h = firsts h t ++ opposite (row_at t h) ∷ []

-- the current subproblem, all rows of the table, is on top while the mark is set
abbrev pub pile_of : Bool → List Row → List ℕ → List Subproblem
pile_of true t hs = t ∷ map (waiting t) hs
pile_of false t hs = []

abbrev pub view : Holding → Moment
view p = record { pile = pile_of p.mark p.table p.heights; taken = p.taken }

-- each height is a place below n, and the older ones lie below it
abbrev pub Falling : ℕ → List ℕ → Type 0
Falling n [] = Unit {0}
Falling n (h ∷ hs) = (h < n) × Falling h hs

abbrev pub Orderly : Holding → Type 0
Orderly p = Falling (length p.table) p.heights

-- ---- what calls do
abbrev pub begun : Job → Holding
begun j = record { table = j.rows; heights = []; mark = true; taken = None }

abbrev pub joined : List Row → List ℕ → Option Plan → Row → Holding
joined t hs taken r = record { table = t ++ r ∷ []; heights = hs; mark = true; taken = taken }

-- with no height waiting the mark falls and the table is the job's rows again; else the newest height leaves, and its subproblem becomes the table
abbrev pub shut : Job → List Row → List ℕ → Option Plan → Holding
shut j t [] taken = record { table = j.rows; heights = []; mark = false; taken = taken }
shut j t (h ∷ hs) taken = record { table = waiting t h; heights = hs; mark = true; taken = taken }

-- an accepted call, while the mark is set
abbrev pub done : Job → Meaning (List ℕ) → List Row → List ℕ → Option Plan → Call → Holding
done j th t hs taken (branch r) = joined t (length t ∷ hs) taken r
done j th t hs taken (cut l) = joined t hs taken (made t l)
done j th t hs taken (chain ls) = joined t hs taken (last_made no_row t ls)
done j th t hs taken (infer clue places) = joined t hs taken (rule_row (size j) (th.rule clue))
done j th t hs taken cutoff = joined t hs taken (cutoff_row j taken)
done j th t hs taken (take x) = record { table = t; heights = hs; mark = true; taken = Some x }
done j th t hs taken (drop place) = shut j t hs taken
done j th t hs taken (pin places) = shut j t hs taken

-- what a call leaves and answers
abbrev pub worked : Job → Meaning (List ℕ) → Holding → Call → Holding × Result (Unit {0}) Fault
worked j th p c = changed (refusal j th (view p) c) p (done j th p.table p.heights p.taken c)

abbrev pub worked_all : Job → Meaning (List ℕ) → Holding → List Call → Holding
worked_all j th p [] = p
worked_all j th p (c ∷ cs) = worked_all j th (worked j th p c).0 cs

-- at every moment a proof holds the plan taken, and its open subproblems are those of the pile, row for row
abbrev pub HoldsThePile : Job → Meaning (List ℕ) → Type 0
HoldsThePile j th = (calls : List Call) → view (worked_all j th (begun j) calls) ≡ after j th (opened j) calls
