-- What a stored proof stands for: its job, and the moment that its table, heights, mark and plan taken make.
use Rattle.std.specs.Prelude.{◌≡◌, ℕ, List, take, Some, None, Option, Result}
use Rattle.terms.specs.declared.fault.Fault.{Fault}
use Rattle.terms.specs.declared.row.Coefficients.{Coefficients}
use Rattle.terms.specs.Rows.{Plan}
use Rattle.theories.specs.Meaning.{Meaning}
use Rattle.law.specs.Calls.{Call}
use Rattle.law.specs.Jobs.{Job}
use Rattle.law.specs.Pile.{Moment, called}
use Rattle.law.specs.Table.{Holding, view}
use Rattle.derivation.specs.declared.state.State.{State}
use Rattle.derivation.specs.TableView.{fixed_of, held_of}

abbrev pub plan_of : ℕ → Option Coefficients → Option Plan
plan_of n None = None
plan_of n (Some p) = Some (take n p.items)

abbrev pub job_in : State → Job
job_in s = record { costs = take s.table.size s.costs.items; rows = (fixed_of s.table).given }

abbrev pub holding_of : State → Holding
holding_of s = record { table = (held_of s.table).rows; heights = (held_of s.table).heights; mark = (held_of s.table).mark; taken = plan_of s.table.size s.taken }

abbrev pub moment_of : State → Moment
moment_of s = view (holding_of s)

-- what a call does to a stored proof, whatever its theory: it answers and leaves what the law says, and the job stays
pub record Works (th : Meaning (List ℕ)) (before : State) (c : Call) (after : State) (answer : Result (Unit {0}) Fault) : Type 0 where
  pub step : (moment_of after, answer) ≡ called (job_in before) th (moment_of before) c
  pub job : job_in after ≡ job_in before
