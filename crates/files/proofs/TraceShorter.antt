-- What a record leaves of a trace is shorter.
use Rattle.std.proofs.Common.{ℕ, ◌+◌, ◌≤◌, min, false, List, [], ◌∷◌, length, get_or, Some, None, Ok, Option, Result, sym, subst, arith}
use Rattle.terms.specs.declared.fault.Fault.{Fault}
use Rattle.terms.proofs.Passed.{clash}
use Rattle.theories.specs.Meaning.{Meaning}
use Rattle.law.specs.Calls.{Call}
use Rattle.law.specs.Jobs.{Job, size}
use Rattle.law.specs.Pile.{called}
use Rattle.fields.specs.Bytes.{byte_read}
use Rattle.files.specs.JobFiles.{accepted}
use Rattle.files.specs.TraceFiles.{Following, following, record_done, step_done, trace_way}
use Rattle.spelling.specs.StepsRead.{step_fields, step_read}
use Rattle.files.proofs.RecordsRead.{Shortens}
use Rattle.fields.proofs.Shorter.{Leaves, leaves_after, leaves_number, leaves_then}
use Rattle.spelling.proofs.StepsShorter.{leaves_fields}

leaves_done : (k : ℕ) (j : Job) (th : Meaning (List ℕ)) (s : Following) (rest : List ℕ) (o : Option Call) → length rest ≤ k → Leaves k (step_done j th s.moment rest o)
leaves_done k j th s rest None h = h
leaves_done k j th s rest (Some c) h = leaves_after {Y = Following} k (accepted (called j th s.moment c)) (λ made. Ok (following false made, rest)) (λ made. h)

record_leaves : (k : ℕ) (j : Job) (th : Meaning (List ℕ)) (w : ℕ) (s : Following) (bs : List ℕ) → length bs ≤ k + 1 → Leaves k (record_done j th w s bs)
record_leaves k j th w s bs h =
    leaves_then {Y = Following} k (step_read (size j) w bs) (λ p. step_done j th s.moment p.1 p.0)
    (leaves_then {Y = Option Call} k (byte_read bs) (λ letter. step_fields (min (size j) 16) w letter.0 letter.1) (leaves_number k 1 (λ cs. get_or cs 0 0) bs h) (λ letter g. leaves_fields k (min (size j) 16) w letter.0 letter.1 g))
    (λ p g. leaves_done k j th s p.1 p.0 g)

pub done_shorter : (j : Job) (th : Meaning (List ℕ)) (w : ℕ) → Shortens (trace_way j th w)
done_shorter j th w s t [] rest e = clash (cc)
done_shorter j th w s t (b ∷ bs) rest e =
    let h : Leaves (length bs) (Ok (t, rest)) = subst (λ (r : Result (Following × List ℕ) Fault). Leaves (length bs) r) (sym e) (record_leaves (length bs) j th w s (b ∷ bs) (omega arith)) in omega arith
