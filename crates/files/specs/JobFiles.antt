-- The job file: a theory's letter, variables, rows, the theory's parts, and the end.
use Rattle.std.specs.Prelude.{ℕ, Bool, true, false, cond, List, [], take, Ok, Err, Result, ◌==◌, slice_index}
use Rattle.terms.specs.declared.fault.Fault.{Fault}
use Rattle.theories.specs.declared.parts.Batch.{Batch}
use Rattle.theories.specs.declared.parts.Call.{Call}
use Rattle.theories.specs.OneVat.{batch_added}
use Rattle.theories.specs.SharedResults.{call_added}
use Rattle.law.specs.Jobs.{Job, no_job, row_added, size, variable_added}
use Rattle.files.specs.declared.fault.File.TheVariants.{Job as inJob}
use Rattle.files.specs.declared.fault.FileFault.{FileFault}
use Rattle.files.specs.declared.records.Kind.{Kind}
use Rattle.files.specs.declared.records.Kind.TheVariants.{Bare, Shared, OneVat, Variable, Row, Call as CallRecord, Batch as BatchRecord, End}
use Rattle.files.specs.declared.records.Phase.{Phase}
use Rattle.files.specs.declared.records.Phase.TheVariants.{Start, Variables, Rows, Parts, Ended}
use Rattle.fields.specs.Bodies.{body_read}
use Rattle.fields.specs.Bytes.{byte_read, int32_read, nat32_read, number_read, out_of_phase}
use Rattle.files.specs.Records.{Way, file_read}
use Rattle.fields.specs.Rest.{and_then}

-- ---- letters and phases
-- F (70) and W (87) are parts, E (69) ends
abbrev pub after_rows : ℕ → Result (Phase × Kind) Fault
after_rows c = cond (c == 70) (Ok (Parts, CallRecord)) (cond (c == 87) (Ok (Parts, BatchRecord)) (cond (c == 69) (Ok (Ended, End)) (Err out_of_phase)))

-- R (82) is a row
abbrev pub after_variables : ℕ → Result (Phase × Kind) Fault
after_variables c = cond (c == 82) (Ok (Rows, Row)) (after_rows c)

-- the phase that a letter leads to, and the kind of its record: N (78), S (83) and O (79) are theories, V (86) is a variable
abbrev pub stepped : Phase → ℕ → Result (Phase × Kind) Fault
stepped Start c = cond (c == 78) (Ok (Variables, Bare)) (cond (c == 83) (Ok (Variables, Shared)) (cond (c == 79) (Ok (Variables, OneVat)) (Err out_of_phase)))
stepped Variables c = cond (c == 86) (Ok (Variables, Variable)) (after_variables c)
stepped Rows c = after_variables c
stepped Parts c = after_rows c
stepped Ended c = Err out_of_phase

-- ---- records
-- a theory by its parts
pub data TheoryParts : Type 0 where
  bare : TheoryParts
  shared : List Call → TheoryParts
  one_vat : List Batch → TheoryParts

-- what an accepted call leaves
abbrev pub accepted : {X : Type 0} → X × Result (Unit {0}) Fault → Result X Fault
accepted p = and_then p.1 (λ done. Ok p.0)

abbrev pub variable_read : Job → List ℕ → Result (Job × List ℕ) Fault
variable_read j fields = and_then (int32_read fields) (λ c. and_then (accepted (variable_added j c.0)) (λ made. Ok (made, c.1)))

abbrev pub row_read : Job → List ℕ → Result (Job × List ℕ) Fault
row_read j fields =
    and_then (byte_read fields) (λ letter.
    and_then (body_read (size j) letter.1) (λ b.
    and_then (accepted (row_added j (take (size j) b.0.numbers) letter.0 b.0.right)) (λ made. Ok (made, b.1))))

-- a call: function, first, second and result, a byte each
abbrev pub call_of : List ℕ → Call
call_of bs = record { function = slice_index bs 0; first = slice_index bs 1; second = slice_index bs 2; result = slice_index bs 3 }

abbrev pub call_read : TheoryParts → List ℕ → Result (TheoryParts × List ℕ) Fault
call_read bare fields = Err out_of_phase
call_read (one_vat bs) fields = Err out_of_phase
call_read (shared cs) fields = and_then (number_read 4 call_of fields) (λ c. and_then (accepted (call_added cs c.0)) (λ made. Ok (shared made, c.1)))

-- a batch: start, a byte, and duration, four
abbrev pub batch_of : List ℕ → Result (Batch × List ℕ) Fault
batch_of fields = and_then (byte_read fields) (λ s. and_then (nat32_read s.1) (λ d. Ok (record { start = s.0; duration = d.0 }, d.1)))

abbrev pub batch_read : TheoryParts → List ℕ → Result (TheoryParts × List ℕ) Fault
batch_read bare fields = Err out_of_phase
batch_read (shared cs) fields = Err out_of_phase
batch_read (one_vat bs) fields = and_then (batch_of fields) (λ b. and_then (accepted (batch_added bs b.0)) (λ made. Ok (one_vat made, b.1)))

-- ---- the reader
-- how far a file is read
pub record Reading : Type 0 where
  pub phase : Phase
  pub job : Job
  pub parts : TheoryParts

abbrev pub with_job : Phase → TheoryParts → Result (Job × List ℕ) Fault → Result (Reading × List ℕ) Fault
with_job phase parts r = and_then r (λ p. Ok (record { phase = phase; job = p.0; parts = parts }, p.1))

abbrev pub with_parts : Phase → Job → Result (TheoryParts × List ℕ) Fault → Result (Reading × List ℕ) Fault
with_parts phase j r = and_then r (λ p. Ok (record { phase = phase; job = j; parts = p.0 }, p.1))

abbrev pub fields_read : Phase → Kind → Job → TheoryParts → List ℕ → Result (Reading × List ℕ) Fault
fields_read phase Bare j parts fields = Ok (record { phase = phase; job = j; parts = bare }, fields)
fields_read phase Shared j parts fields = Ok (record { phase = phase; job = j; parts = shared [] }, fields)
fields_read phase OneVat j parts fields = Ok (record { phase = phase; job = j; parts = one_vat [] }, fields)
fields_read phase Variable j parts fields = with_job phase parts (variable_read j fields)
fields_read phase Row j parts fields = with_job phase parts (row_read j fields)
fields_read phase CallRecord j parts fields = with_parts phase j (call_read parts fields)
fields_read phase BatchRecord j parts fields = with_parts phase j (batch_read parts fields)
fields_read phase End j parts fields = Ok (record { phase = phase; job = j; parts = parts }, fields)

-- a record: its letter, then its fields, then the rest of the file
abbrev pub record_read : Reading → List ℕ → Result (Reading × List ℕ) Fault
record_read s bytes = and_then (byte_read bytes) (λ letter. and_then (stepped s.phase letter.0) (λ p. fields_read p.0 p.1 s.job s.parts letter.1))

-- ---- the whole file
abbrev pub start : Reading
start = record { phase = Start; job = no_job; parts = bare }

abbrev pub ended : Phase → Bool
ended Start = false
ended Variables = false
ended Rows = false
ended Parts = false
ended Ended = true

-- how a job file is read
abbrev pub job_way : Way Reading
job_way = record { file = inJob; ended = λ s. ended s.phase; one = record_read }

abbrev pub job_and_parts : Result Reading FileFault → Result (Job × TheoryParts) FileFault
job_and_parts (Ok s) = Ok (s.job, s.parts)
job_and_parts (Err f) = Err f

-- the job and the theory that the bytes spell, or the first fault and its place
abbrev pub job_file : List ℕ → Result (Job × TheoryParts) FileFault
job_file bytes = job_and_parts (file_read job_way start bytes)
