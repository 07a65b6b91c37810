-- The law of derivations, of every moment to which calls lead on a newly opened proof, repeats and refusals among them.
use Rattle.std.specs.Prelude.{◌≡◌, ℕ, ◌<◌, ◌≤◌, true, ◌⊎◌, ◌↔◌, List, [], ◌∷◌, length, ℤ, ◌≤ℤ◌, ◌<ℤ◌, Some, None, Option, ◌≢◌}
use Rattle.std.specs.List.{ContainsAt as Has, AllByRecursion}
use Rattle.terms.specs.Limits.{million, within}
use Rattle.terms.specs.Rows.{Meets, Plan, Row, negated, unit}
use Rattle.theories.specs.Meaning.{Meaning}
use Rattle.law.specs.Jobs.{Job, Model, cost, size}
use Rattle.law.specs.Calls.{Call}
use Rattle.law.specs.Pile.{Moment, Subproblem, Verdict, after, opened, verdict}
use Rattle.law.specs.Pile.Verdict.{least, none, unfinished}
use Rattle.law.specs.Moves.{Accepts, Leads, Moves}

-- a plan lies in a subproblem when it meets all its rows
abbrev pub LiesIn : Subproblem → Plan → Type 0
LiesIn t x = AllByRecursion (Meets x) t

-- it lies in some of these
abbrev pub LiesInSome : List Subproblem → Plan → Type 0
LiesInSome [] x = ⊥
LiesInSome (t ∷ ts) x = LiesIn t x ⊎ LiesInSome ts x

-- a plan cheaper than the plan taken, or any while none is taken
abbrev pub Wanted : Job → Option Plan → Plan → Type 0
Wanted j None x = Unit {0}
Wanted j (Some y) x = cost j x <ℤ cost j y

-- what holds of a moment: no model is lost
pub record Kept (j : Job) (th : Meaning (List ℕ)) (m : Moment) : Type 0 where
  -- a model cheaper than the plan taken, or any model while none is taken, lies in some open subproblem
  pub still_open : (x : Plan) → Model j th x → Wanted j m.taken x → LiesInSome m.pile x
  -- the plan taken, if any, is a model
  pub taken_model : (y : Plan) → m.taken ≡ Some y → Model j th y

-- what holds of the verdict v at a moment: it says what it should, and that is so
pub record Closes (j : Job) (th : Meaning (List ℕ)) (m : Moment) (v : Verdict) : Type 0 where
  -- least, with the plan taken and its cost, exactly when nothing is open and a plan is taken
  pub least_when : (y : Plan) (c : ℤ) → (v ≡ least y c) ↔ ((m.pile ≡ []) × (m.taken ≡ Some y) × (c ≡ cost j y))
  -- then every model costs at least as much
  pub least_then : (y : Plan) (c : ℤ) → v ≡ least y c → (x : Plan) → Model j th x → c ≤ℤ cost j x
  -- none, exactly when nothing is open and no plan is taken
  pub none_when : (v ≡ none) ↔ ((m.pile ≡ []) × (m.taken ≡ None))
  -- then there is no model
  pub none_then : v ≡ none → (x : Plan) → Model j th x → ⊥
  -- else unfinished, with the plan taken, if any
  pub unfinished_when : (o : Option Plan) → (v ≡ unfinished o) ↔ ((m.pile ≢ []) × (m.taken ≡ o))

-- a job row of these coefficients, its right side within 1,000,000 of zero
abbrev pub HasRow : Job → List ℤ → Type 0
HasRow j cs = (r : Row) × Has j.rows r × (r.coefficients ≡ cs) × (within million r.right ≡ true)

-- each variable has a job row of +1 and one of -1 at it alone
abbrev pub Boxed : Job → Type 0
Boxed j = (i : ℕ) → i < size j → HasRow j (unit (size j) i) × HasRow j (negated (unit (size j) i))

-- a job has at most 16 variables and at most 64 rows
pub record Sized (j : Job) : Type 0 where
  pub variables : size j ≤ 16
  pub rows_few : length j.rows ≤ 64

-- ---- the law
-- the calls, picked blindly, lead from opening to the moment m
abbrev pub Reached : Job → Meaning (List ℕ) → List Call → Moment → Type 0
Reached j th calls m = Leads (Moves j th) (opened j) calls m

-- every list of calls leads to one moment, the one that its steps give
abbrev pub OneOutcome : Job → Meaning (List ℕ) → Type 0
OneOutcome j th = (calls : List Call) (m : Moment) → Reached j th calls m ↔ (m ≡ after j th (opened j) calls)

-- at every moment, before the first call and after any, no model is lost
abbrev pub NoModelLost : Job → Meaning (List ℕ) → Type 0
NoModelLost j th = (calls : List Call) (m : Moment) → Reached j th calls m → Kept j th m

-- closing at any such moment tells the truth
abbrev pub ClosingTrue : Job → Meaning (List ℕ) → Type 0
ClosingTrue j th = (calls : List Call) (m : Moment) → Reached j th calls m → Closes j th m (verdict j m)

-- a boxed job can be finished: some list of calls, none refused, leaves nothing open
abbrev pub CanFinish : Job → Meaning (List ℕ) → Type 0
CanFinish j th = Sized j → Boxed j → (calls : List Call) × (m : Moment) × Leads (Accepts j th) (opened j) calls m × (m.pile ≡ [])

-- the whole law, of a job and a lawful theory
pub record Law (j : Job) (th : Meaning (List ℕ)) : Type 0 where
  pub one_outcome : OneOutcome j th
  pub no_model_lost : NoModelLost j th
  pub closing_true : ClosingTrue j th
  pub can_finish : CanFinish j th
