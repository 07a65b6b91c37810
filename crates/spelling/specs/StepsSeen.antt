-- What the readers of steps answer.
use Rattle.std.specs.Prelude.{ℕ, List, Some, None, Ok, Err, Option, Result}
use Rattle.std.specs.Borrow.{Bor}
use Rattle.terms.specs.declared.fault.Fault.{Fault}
use Rattle.law.specs.declared.premise.Line.{Line as LineBytes}
use Rattle.law.specs.declared.step.Step.{Step}
use Rattle.law.specs.Calls.{Call, Line}
use Rattle.law.specs.Spelt.{line_of}
use Rattle.law.specs.StepView.{call_of}

-- what is read, by its view, and the bytes after it
abbrev pub seen_by : {X Y : Type 0} → (X → Y) → Result (X × Bor (List ℕ)) Fault → Result (Y × List ℕ) Fault
seen_by view (Ok p) = Ok (view p.0, p.1.now)
seen_by view (Err f) = Err f

abbrev pub parts_seen : Result (Bor (List ℕ) × Bor (List ℕ)) Fault → Result (List ℕ × List ℕ) Fault
parts_seen r = seen_by (λ part. part.now) r

abbrev pub line_seen : Result (LineBytes × Bor (List ℕ)) Fault → Result (Line × List ℕ) Fault
line_seen r = seen_by line_of r

abbrev pub rest_seen : Result (Bor (List ℕ)) Fault → Result (List ℕ) Fault
rest_seen (Ok r) = Ok r.now
rest_seen (Err f) = Err f

abbrev pub call_in : Option Step → Option Call
call_in None = None
call_in (Some s) = Some (call_of s)

abbrev pub step_seen : Result (Option Step × Bor (List ℕ)) Fault → Result (Option Call × List ℕ) Fault
step_seen r = seen_by call_in r
