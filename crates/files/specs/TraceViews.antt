-- What the calls that follow a trace answer.
use Rattle.std.specs.Prelude.{ℕ, Bool, List, Ok, Err, Result}
use Rattle.std.specs.Borrow.{Bor}
use Rattle.terms.specs.declared.fault.Fault.{Fault}
use Rattle.law.specs.Pile.{Moment, Verdict}
use Rattle.derivation.specs.declared.verdict.Verdict.{Verdict as Said}
use Rattle.derivation.specs.VerdictView.{verdict_of}
use Rattle.files.specs.declared.fault.FileFault.{FileFault}
use Rattle.files.specs.TraceFiles.{Following, following}

-- what a record leaves of a proof at this moment, and the rest of the file
abbrev pub record_seen : Moment → Result (Bool × Bor (List ℕ)) Fault → Result (Following × List ℕ) Fault
record_seen m (Ok p) = Ok (following p.0 m, p.1.now)
record_seen m (Err f) = Err f

abbrev pub moment_left : Moment → Result (Unit {0}) FileFault → Result Moment FileFault
moment_left m (Ok done) = Ok m
moment_left m (Err f) = Err f

abbrev pub verdict_said : Result Said FileFault → Result Verdict FileFault
verdict_said (Ok v) = Ok (verdict_of v)
verdict_said (Err f) = Err f
