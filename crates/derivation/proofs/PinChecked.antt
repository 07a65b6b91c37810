-- The checks of a pin, part by part.
use Rattle.std.proofs.Common.{◌≡◌, ℕ, List, [], ◌∷◌, take, ℤ, Some, None, Option, sym, refl, ap, ◌∙◌}
use Rattle.terms.specs.declared.fault.Cause.TheVariants.{PointStaysOpen}
use Rattle.terms.specs.declared.fault.Fault.{Fault}
use Rattle.terms.specs.Faults.{first_fault, unless}
use Rattle.terms.specs.Rows.{Plan, Row}
use Rattle.terms.proofs.Passed.{pass_list, stop_list}
use Rattle.theories.specs.Meaning.{Meaning}
use Rattle.law.specs.Bounds.{point}
use Rattle.law.specs.Jobs.{size}
use Rattle.law.specs.Steps.{pin_checks, shuts_at}
use Rattle.derivation.specs.declared.state.State.{State}
use Rattle.derivation.specs.Pinned.{Pinned, fixed_checks}
use Rattle.derivation.specs.StateView.{job_in}
use Rattle.derivation.proofs.StepsTaken.{size_in}

alone : (o : Option Fault) → first_fault (o ∷ []) ≡ o
alone None = refl
alone (Some f) = refl

module _ (s : State) (th : Meaning (List ℕ)) (t : List Row) (taken : Option Plan) (ps : List ℕ) where
  abbrev shutting : Plan → List (Option Fault)
  shutting x = unless (shuts_at (job_in s) th t taken x) PointStaysOpen 0 ∷ []

  same_checks : first_fault (fixed_checks (size (job_in s)) t ps) ≡ first_fault (fixed_checks s.table.size t ps)
  same_checks = ap (λ n. first_fault (fixed_checks n t ps)) (size_in s)

  pub pin_unfixed : (f : Fault) → first_fault (fixed_checks s.table.size t ps) ≡ Some f → first_fault (pin_checks (job_in s) th t taken ps) ≡ Some f
  pin_unfixed f e = stop_list (fixed_checks (size (job_in s)) t ps) (shutting (point (size (job_in s)) t ps)) f (same_checks ∙ e)

  -- only the point is left
  pub pin_fixed : (items : List ℤ) → Pinned s.table.size t ps items → first_fault (pin_checks (job_in s) th t taken ps) ≡ unless (shuts_at (job_in s) th t taken (take s.table.size items)) PointStaysOpen 0
  pin_fixed items p =
      pass_list (fixed_checks (size (job_in s)) t ps) (shutting (point (size (job_in s)) t ps)) (same_checks ∙ p.passed)
      ∙ ap (λ x. first_fault (shutting x)) (ap (λ n. point n t ps) (size_in s) ∙ sym p.is)
      ∙ alone (unless (shuts_at (job_in s) th t taken (take s.table.size items)) PointStaysOpen 0)
