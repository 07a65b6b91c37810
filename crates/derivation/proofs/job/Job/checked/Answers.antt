use Rattle.std.proofs.Common.{◌≡◌, ℕ, ◌+◌, true, eqb, leb, [], length, None, Err, sym, ap, ◌∙◌, ap₂, w64}
use Rattle.std.proofs.lemmas.Result.{err_from_is_err_and}
use Rattle.std.proofs.lemmas.Int.{to_z-of_z}
use Rattle.terms.specs.declared.fault.Cause.TheVariants.{Full, WrongLength}
use Rattle.terms.specs.Faults.{first_fault, unless}
use Rattle.terms.specs.Limits.{row_limits}
use Rattle.terms.specs.Rows.{Row}
use Rattle.terms.specs.Stored.{padded}
use Rattle.terms.proofs.Passed.{pass_one, passed, refused_case, stop_one, stopped, unless_passed}
use Rattle.law.specs.declared.relation.Relation.{Relation}
use Rattle.law.specs.Jobs.{rewritten, size}
use Rattle.derivation.specs.declared.job.Job.{Job as StoredJob}
use Rattle.derivation.specs.JobView.{job_of}
use Rattle.derivation.proofs.RowChecked.{named, numbers_stop, room_left}
use Rattle.derivation.proofs.StoredJobs.{rows_are, size_is, size_small}
use Rattle.derivation.proofs.job.Job.checked.Goals as goal

long : (o : StoredJob) (n : ℕ) → unless (eqb n o.size) WrongLength 0 ≡ None → eqb n (size (job_of o)) ≡ true
long o n e = ap (eqb n) (size_is o) ∙ unless_passed (eqb n o.size) WrongLength 0 e

-- the room check, by the numbers that the code has
room : (o : StoredJob) (relation : Relation) (row : Row) (n k : ℕ) → n ≡ length o.rows.items → k ≡ length (rewritten relation row) →
    unless (leb (n + k) 64) Full 0 ≡ unless (leb (length (job_of o).rows + length (rewritten relation row)) 64) Full 0
room o relation row n k l e =
    ap₂ (λ a b. unless (leb (a + b) 64) Full 0) (l ∙ sym (rows_are o)) e

pub returns-in_err-row : goal.returns-in_err-row
returns-in_err-row c =
    let o = c.args.self.now in let cs = c.args.coefficients.now in
    let p = err_from_is_err_and c.from_residual-in_err-row.result c.from_residual-in_err-row.ensures.1 in
    let h = (passed _ _ _ c.in_ok-need.ensures).0 in
    let s = sym (ap (λ z. first_fault (row_limits cs z)) (to_z-of_z w64 c.args.right c.ranges.right)) ∙ stopped _ _ _ c.in_err-row.ensures in
    refused_case _ _ _ c.in_err-row.field-0.0 (p.1 ∙ ap Err p.2) (numbers_stop (job_of o) cs c.args.letter c.args.right (size_small o) (long o (length cs) h) _ s)

pub returns-in_err-need-2 : goal.returns-in_err-need-2
returns-in_err-need-2 c =
    let o = c.args.self.now in let cs = c.args.coefficients.now in let relation = c.in_ok-relation.relation in
    let p = err_from_is_err_and c.from_residual-in_err-need-2.result c.from_residual-in_err-need-2.ensures.1 in
    let h = (passed _ _ _ c.in_ok-need.ensures).0 in
    let s = sym (ap (λ z. first_fault (row_limits cs z)) (to_z-of_z w64 c.args.right c.ranges.right)) ∙ (passed _ _ _ c.in_ok-row.ensures).0 in
    let q = room_left (job_of o) cs c.args.letter c.args.right (size_small o) (long o (length cs) h) relation s (named _ _ c.in_ok-relation.ensures) in
    let row : Row = record { coefficients = cs; right = c.args.right } in
    let r = sym (room o relation row c.len.result c.rows_of.result c.len.ensures.value (c.rows_of.ensures.value row)) ∙ stopped _ _ _ c.in_err-need-2.ensures in
    refused_case _ _ _ c.in_err-need-2.field-0.0 (p.1 ∙ ap Err p.2) (q ∙ stop_one _ [] _ r)

pub returns : goal.returns
returns c =
    let o = c.args.self.now in let cs = c.args.coefficients.now in let relation = c.in_ok-relation.relation in
    let h = (passed _ _ _ c.in_ok-need.ensures).0 in
    let t = to_z-of_z w64 c.args.right c.ranges.right in
    let e = passed _ _ _ c.in_ok-row.ensures in
    let s = sym (ap (λ z. first_fault (row_limits cs z)) t) ∙ e.0 in
    let n = named _ _ c.in_ok-relation.ensures in
    let q = room_left (job_of o) cs c.args.letter c.args.right (size_small o) (long o (length cs) h) relation s n in
    let row : Row = record { coefficients = cs; right = c.args.right } in
    let r = sym (room o relation row c.len.result c.rows_of.result c.len.ensures.value (c.rows_of.ensures.value row)) ∙ (passed _ _ _ c.in_ok-need-2.ensures).0 in
    record { passed = q ∙ pass_one _ [] r; named = n; is = e.1 ∙ ap (λ z. record { coefficients = padded cs; right = z }) t }
