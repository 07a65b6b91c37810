-- What a proof stands for, and what a call does to it.
use Rattle.std.specs.Prelude.{◌≡◌, ℕ, List, Option, Result}
use Rattle.terms.specs.declared.fault.Fault.{Fault}
use Rattle.theories.specs.Meaning.{Meaning, on_bytes}
use Rattle.law.specs.Calls.{Call}
use Rattle.law.specs.Jobs.{Job}
use Rattle.law.specs.Pile.{Moment, called}
use Rattle.derivation.specs.declared.proof.Proof.{Proof}
use Rattle.derivation.specs.StateView.{job_in, moment_of}

-- its job, which never changes
abbrev pub job_held : {T : Type 0} → Proof T → Job
job_held p = job_in p.state

-- its open subproblems and the plan taken
abbrev pub moment_held : {T : Type 0} → Proof T → Moment
moment_held p = moment_of p.state

-- what its theory means, of clues as bytes
abbrev pub meaning_held : {T C : Type 0} → (List ℕ → Option C) → (T → Meaning C) → Proof T → Meaning (List ℕ)
meaning_held reads means p = on_bytes reads (means p.theory)

-- what a call does: it answers and leaves what the law says, and the job and the theory stay
pub record Does {T C : Type 0} (reads : List ℕ → Option C) (means : T → Meaning C) (before : Proof T) (c : Call) (after : Proof T) (answer : Result (Unit {0}) Fault) : Type 0 where
  pub step : (moment_held after, answer) ≡ called (job_held before) (meaning_held reads means before) (moment_held before) c
  pub job : job_held after ≡ job_held before
  pub theory : after.theory ≡ before.theory
