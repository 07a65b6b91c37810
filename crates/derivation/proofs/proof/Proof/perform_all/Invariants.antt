use Rattle.std.proofs.Common.{map, drop}
use Rattle.law.specs.StepView.{call_of}
use Rattle.derivation.specs.ProofView.{meaning_held}
use Rattle.derivation.proofs.StepsRun.{Underway}
use Rattle.derivation.proofs.proof.Proof.perform_all.Given as goal

abbrev pub invariant-loop-step : goal.invariant-loop-step
invariant-loop-step g l = Underway (meaning_held g.T.Theory.reads g.T.Theory.means l.initial.self) l.initial.self l.self (map call_of l.steps) (map call_of (drop l.step-index l.steps))
