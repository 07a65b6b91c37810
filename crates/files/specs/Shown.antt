-- What a verdict tells of a job and its theory.
use Rattle.std.specs.Prelude.{◌≡◌, ℕ, List, ℤ, ◌≤ℤ◌, Some}
use Rattle.terms.specs.Rows.{Plan}
use Rattle.theories.specs.Meaning.{Meaning}
use Rattle.law.specs.Jobs.{Job, Model, cost}
use Rattle.law.specs.Pile.{Verdict}
use Rattle.law.specs.Pile.Verdict.{least, none, unfinished}

pub record Shown (j : Job) (th : Meaning (List ℕ)) (v : Verdict) : Type 0 where
  -- least: the plan is a model of this cost, and every model costs at least as much
  pub least_model : (y : Plan) (c : ℤ) → v ≡ least y c → Model j th y
  pub least_cost : (y : Plan) (c : ℤ) → v ≡ least y c → c ≡ cost j y
  pub least_of_all : (y : Plan) (c : ℤ) → v ≡ least y c → (x : Plan) → Model j th x → c ≤ℤ cost j x
  -- none: there is no model
  pub no_model : v ≡ none → (x : Plan) → Model j th x → ⊥
  -- unfinished: the plan taken, if any, is a model
  pub so_far : (y : Plan) → v ≡ unfinished (Some y) → Model j th y
