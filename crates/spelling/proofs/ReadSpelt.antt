-- What the reader answers keeps the law of spellings.
use Rattle.std.proofs.Common.{◌≡◌, ℕ, ◌≤◌, List, IfOk, Ok, Err, Option, Result, sym, Bor}
use Rattle.terms.specs.declared.fault.Fault.{Fault}
use Rattle.law.specs.declared.step.Step.{Step}
use Rattle.spelling.specs.OneSpelling.{AreBytes, Spelt}
use Rattle.spelling.specs.StepsRead.{step_read}
use Rattle.spelling.specs.StepsSeen.{call_in, step_seen}
use Rattle.spelling.proofs.SpeltOnce.{one_spelling}

pub read_is_spelt : (n w : ℕ) (bytes : List ℕ) (r : Result (Option Step × Bor (List ℕ)) Fault) → AreBytes bytes → step_seen r ≡ step_read n w bytes → IfOk r (λ p. n ≤ 16 → Spelt n w (call_in p.0) bytes p.1.now)
read_is_spelt n w bytes (Ok p) b e = λ few. one_spelling n w bytes (call_in p.0) p.1.now few b (sym e)
read_is_spelt n w bytes (Err f) b e = tt
