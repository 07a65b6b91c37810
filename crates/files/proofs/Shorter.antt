-- What a record leaves of a file is shorter.
use Rattle.std.proofs.Common.{◌≡◌, ℕ, ◌+◌, ◌<◌, ◌≤◌, List, [], ◌∷◌, length, get_or, take, Ok, Result, sym, subst, arith, w32, to_z}
use Rattle.terms.specs.declared.fault.Fault.{Fault}
use Rattle.terms.proofs.Passed.{clash}
use Rattle.theories.specs.declared.parts.Batch.{Batch}
use Rattle.theories.specs.OneVat.{batch_added}
use Rattle.theories.specs.SharedResults.{call_added}
use Rattle.law.specs.Jobs.{Job, row_added, size, variable_added}
use Rattle.files.specs.declared.records.Kind.{Kind}
use Rattle.files.specs.declared.records.Kind.TheVariants.{Bare, Shared, OneVat, Variable, Row, Call as CallRecord, Batch as BatchRecord, End}
use Rattle.files.specs.declared.records.Phase.{Phase}
use Rattle.fields.specs.Bodies.{body_read}
use Rattle.terms.specs.Bytes.{nat32}
use Rattle.fields.specs.Bytes.{byte_read, int32_read, nat32_read, number_read}
use Rattle.files.specs.JobFiles.{Reading, TheoryParts, accepted, bare, batch_of, batch_read, call_of, call_read, fields_read, one_vat, record_read, row_read, shared, stepped, variable_read}
use Rattle.fields.specs.Rest.{and_then}
use Rattle.fields.proofs.Shorter.{Leaves, leaves_after, leaves_body, leaves_number, leaves_then}

-- ---- the records of a job file
leaves_variable : (k : ℕ) (j : Job) (bs : List ℕ) → length bs ≤ k → Leaves k (variable_read j bs)
leaves_variable k j bs h =
    leaves_then k (int32_read bs) (λ c. and_then (accepted (variable_added j c.0)) (λ made. Ok (made, c.1))) (leaves_number k 4 (λ cs. to_z w32 (nat32 cs)) bs (omega arith))
    (λ c g. leaves_after {Y = Job} k (accepted (variable_added j c.0)) (λ made. Ok (made, c.1)) (λ made. g))

leaves_row : (k : ℕ) (j : Job) (bs : List ℕ) → length bs ≤ k → Leaves k (row_read j bs)
leaves_row k j bs h =
    leaves_then k (byte_read bs) (λ l. and_then (body_read (size j) l.1) (λ b. and_then (accepted (row_added j (take (size j) b.0.numbers) l.0 b.0.right)) (λ made. Ok (made, b.1)))) (leaves_number k 1 (λ cs. get_or cs 0 0) bs (omega arith)) (λ l h₁.
    leaves_then k (body_read (size j) l.1) (λ b. and_then (accepted (row_added j (take (size j) b.0.numbers) l.0 b.0.right)) (λ made. Ok (made, b.1))) (leaves_body k (size j) l.1 h₁)
    (λ b h₂. leaves_after {Y = Job} k (accepted (row_added j (take (size j) b.0.numbers) l.0 b.0.right)) (λ made. Ok (made, b.1)) (λ made. h₂)))

leaves_call : (k : ℕ) (parts : TheoryParts) (bs : List ℕ) → length bs ≤ k → Leaves k (call_read parts bs)
leaves_call k bare bs h = tt
leaves_call k (one_vat batches) bs h = tt
leaves_call k (shared calls) bs h =
    leaves_then {Y = TheoryParts} k (number_read 4 call_of bs) (λ c. and_then (accepted (call_added calls c.0)) (λ made. Ok (shared made, c.1))) (leaves_number k 4 call_of bs (omega arith))
    (λ c g. leaves_after {Y = TheoryParts} k (accepted (call_added calls c.0)) (λ made. Ok (shared made, c.1)) (λ made. g))

leaves_batch_fields : (k : ℕ) (bs : List ℕ) → length bs ≤ k → Leaves k (batch_of bs)
leaves_batch_fields k bs h =
    leaves_then k (byte_read bs) (λ s. and_then (nat32_read s.1) (λ d. Ok (record { start = s.0; duration = d.0 }, d.1))) (leaves_number k 1 (λ cs. get_or cs 0 0) bs (omega arith))
    (λ s h₁. leaves_then {Y = Batch} k (nat32_read s.1) (λ d. Ok (record { start = s.0; duration = d.0 }, d.1)) (leaves_number k 4 nat32 s.1 (omega arith)) (λ d h₂. h₂))

leaves_batch : (k : ℕ) (parts : TheoryParts) (bs : List ℕ) → length bs ≤ k → Leaves k (batch_read parts bs)
leaves_batch k bare bs h = tt
leaves_batch k (shared calls) bs h = tt
leaves_batch k (one_vat batches) bs h =
    leaves_then {Y = TheoryParts} k (batch_of bs) (λ b. and_then (accepted (batch_added batches b.0)) (λ made. Ok (one_vat made, b.1))) (leaves_batch_fields k bs h)
    (λ b g. leaves_after {Y = TheoryParts} k (accepted (batch_added batches b.0)) (λ made. Ok (one_vat made, b.1)) (λ made. g))

leaves_fields : (k : ℕ) (phase : Phase) (kind : Kind) (j : Job) (parts : TheoryParts) (bs : List ℕ) → length bs ≤ k → Leaves k (fields_read phase kind j parts bs)
leaves_fields k phase Bare j parts bs h = h
leaves_fields k phase Shared j parts bs h = h
leaves_fields k phase OneVat j parts bs h = h
leaves_fields k phase Variable j parts bs h = leaves_then {Y = Reading} k (variable_read j bs) (λ p. Ok (record { phase = phase; job = p.0; parts = parts }, p.1)) (leaves_variable k j bs h) (λ p g. g)
leaves_fields k phase Row j parts bs h = leaves_then {Y = Reading} k (row_read j bs) (λ p. Ok (record { phase = phase; job = p.0; parts = parts }, p.1)) (leaves_row k j bs h) (λ p g. g)
leaves_fields k phase CallRecord j parts bs h = leaves_then {Y = Reading} k (call_read parts bs) (λ p. Ok (record { phase = phase; job = j; parts = p.0 }, p.1)) (leaves_call k parts bs h) (λ p g. g)
leaves_fields k phase BatchRecord j parts bs h = leaves_then {Y = Reading} k (batch_read parts bs) (λ p. Ok (record { phase = phase; job = j; parts = p.0 }, p.1)) (leaves_batch k parts bs h) (λ p g. g)
leaves_fields k phase End j parts bs h = h

record_leaves : (k : ℕ) (s : Reading) (bs : List ℕ) → length bs ≤ k + 1 → Leaves k (record_read s bs)
record_leaves k s bs h =
    leaves_then k (byte_read bs) (λ l. and_then (stepped s.phase l.0) (λ p. fields_read p.0 p.1 s.job s.parts l.1)) (leaves_number k 1 (λ cs. get_or cs 0 0) bs h)
    (λ l g. leaves_after k (stepped s.phase l.0) (λ p. fields_read p.0 p.1 s.job s.parts l.1) (λ p. leaves_fields k p.0 p.1 s.job s.parts l.1 g))

-- an empty file has no record
pub record_shorter : (s t : Reading) (bs rest : List ℕ) → Ok (t, rest) ≡ record_read s bs → length rest < length bs
record_shorter s t [] rest e = clash (cc)
record_shorter s t (b ∷ bs) rest e =
    let h : Leaves (length bs) (Ok (t, rest)) = subst (λ (r : Result (Reading × List ℕ) Fault). Leaves (length bs) r) (sym e) (record_leaves (length bs) s (b ∷ bs) (omega arith)) in omega arith
