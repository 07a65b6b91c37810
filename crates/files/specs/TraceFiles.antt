-- The trace file: steps that are done on a proof, and the end.
use Rattle.std.specs.Prelude.{ℕ, Bool, true, false, List, Some, None, Ok, Err, Option, Result}
use Rattle.terms.specs.declared.fault.Fault.{Fault}
use Rattle.theories.specs.Meaning.{Meaning}
use Rattle.law.specs.Calls.{Call}
use Rattle.law.specs.Jobs.{Job, size}
use Rattle.law.specs.Pile.{Moment, Verdict, called, opened, verdict}
use Rattle.files.specs.declared.fault.File.TheVariants.{Trace as inTrace}
use Rattle.files.specs.declared.fault.FileFault.{FileFault}
use Rattle.files.specs.JobFiles.{accepted}
use Rattle.files.specs.Records.{Way, file_read}
use Rattle.fields.specs.Rest.{and_then}
use Rattle.spelling.specs.StepsRead.{step_read}

-- how far a trace is followed
pub record Following : Type 0 where
  pub ended : Bool
  pub moment : Moment

abbrev pub following : Bool → Moment → Following
following ended m = record { ended = ended; moment = m }

-- a step is called, and its refusal is the record's; the end changes nothing
abbrev pub step_done : Job → Meaning (List ℕ) → Moment → List ℕ → Option Call → Result (Following × List ℕ) Fault
step_done j th m rest None = Ok (following true m, rest)
step_done j th m rest (Some c) = and_then (accepted (called j th m c)) (λ made. Ok (following false made, rest))

abbrev pub record_done : Job → Meaning (List ℕ) → ℕ → Following → List ℕ → Result (Following × List ℕ) Fault
record_done j th w s bytes = and_then (step_read (size j) w bytes) (λ p. step_done j th s.moment p.1 p.0)

-- clues have w bytes
abbrev pub trace_way : Job → Meaning (List ℕ) → ℕ → Way Following
trace_way j th w = record { file = inTrace; ended = λ s. s.ended; one = record_done j th w }

-- the moment that a trace leads to, or its first fault
abbrev pub moment_in : Result Following FileFault → Result Moment FileFault
moment_in (Ok s) = Ok s.moment
moment_in (Err f) = Err f

abbrev pub trace_file : Job → Meaning (List ℕ) → ℕ → Moment → List ℕ → Result Moment FileFault
trace_file j th w m bytes = moment_in (file_read (trace_way j th w) (following false m) bytes)

-- the verdict of a trace on a newly opened job
abbrev pub closed_at : Job → Result Moment FileFault → Result Verdict FileFault
closed_at j (Ok m) = Ok (verdict j m)
closed_at j (Err f) = Err f

abbrev pub trace_verdict : Job → Meaning (List ℕ) → ℕ → List ℕ → Result Verdict FileFault
trace_verdict j th w bytes = closed_at j (trace_file j th w (opened j) bytes)
