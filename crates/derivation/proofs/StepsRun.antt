-- Steps that are done one after another.
use Rattle.std.proofs.Common.{◌≡◌, ℕ, List, ◌∷◌, Result, sym, ap, ◌∙◌, ap₂}
use Rattle.terms.specs.declared.fault.Fault.{Fault}
use Rattle.theories.specs.Meaning.{Meaning}
use Rattle.law.specs.Calls.{Call}
use Rattle.law.specs.Pile.{after, called, step}
use Rattle.derivation.specs.declared.proof.Proof.{Proof}
use Rattle.derivation.specs.ProofView.{job_held, moment_held}
use Rattle.derivation.proofs.StepsTaken.{Answer}

-- from the proof as it is, the calls that are left lead where all calls lead from the proof as it was
pub record Underway {T : Type 0} (th : Meaning (List ℕ)) (before current : Proof T) (all left : List Call) : Type 0 where
  pub moment : after (job_held before) th (moment_held current) left ≡ after (job_held before) th (moment_held before) all
  pub job : job_held current ≡ job_held before
  pub theory : current.theory ≡ before.theory

module _ {T : Type 0} (means : T → Meaning (List ℕ)) (before current next : Proof T) (all left rest : List Call) (c : Call) where
  pub underway_more : {r : Result (Unit {0}) Fault} → Underway (means before.theory) before current all left → left ≡ c ∷ rest → ◌≡◌ {A = Answer} (moment_held next, r) (called (job_held current) (means current.theory) (moment_held current) c) →
      job_held next ≡ job_held current → next.theory ≡ current.theory → Underway (means before.theory) before next all rest
  underway_more u is e job theory = record {
    moment =
        ap (λ m. after (job_held before) (means before.theory) m rest)
        (ap (λ (w : Answer). w.0) e ∙ ap₂ (λ j t. step j (means t) (moment_held current) c) u.job u.theory)
        ∙ sym (ap (after (job_held before) (means before.theory) (moment_held current)) is) ∙ u.moment;
    job = job ∙ u.job;
    theory = theory ∙ u.theory;
  }
