use Rattle.std.proofs.Common.{length, sym, ap, ◌∙◌, ap₂, arith, w64, to_z, of_z}
use Rattle.std.proofs.lemmas.Int.{to_z-of_z}
use Rattle.terms.specs.Rows.{Row}
use Rattle.terms.specs.Stored.{whole}
use Rattle.terms.specs.Faults.{first_fault}
use Rattle.terms.proofs.Places.{changed_as}
use Rattle.law.specs.Jobs.{row_checks, rows_of}
use Rattle.derivation.specs.Blank.{blank_from}
use Rattle.derivation.specs.JobView.{job_of, with_rows}
use Rattle.derivation.proofs.BlankRows.{padded_blank}
use Rattle.derivation.proofs.RowChecked.{rewritten_long, row_fits}
use Rattle.derivation.proofs.RowsAdded.{front_padded}
use Rattle.derivation.proofs.StoredJobs.{rows_are, size_is}
use Rattle.derivation.proofs.job.Job.row.Goals as goal

pub join-requires : goal.join-requires
join-requires c =
    let o = c.args.self.now in let cs = c.args.coefficients.now in let z = to_z w64 (of_z w64 c.args.right) in
    let relation = c.in_ok-row.relation in
    let j = c.in_ok-row.ensures in
    let f = row_fits (job_of o) cs c.args.letter z j.passed in
    let row : Row = record { coefficients = cs; right = z } in
    let k = ap (λ r. length (rows_of r row)) j.named ∙ rewritten_long relation row (whole c.in_ok-row.row) in
    record {
      room = omega (arith, f.1, k, rows_are o);
      blank = ap₂ (λ n (w : Row). blank_from n w.coefficients) (sym (size_is o) ∙ sym f.0) j.is ∙ padded_blank cs;
    }

pub returns : goal.returns
returns c =
    let o = c.args.self.now in let cs = c.args.coefficients.now in let z = to_z w64 (of_z w64 c.args.right) in
    let relation = c.in_ok-row.relation in
    let j = c.in_ok-row.ensures in
    let f = row_fits (job_of o) cs c.args.letter z j.passed in
    let t = to_z-of_z w64 c.args.right c.ranges.right in
    let row = front_padded o.size c.in_ok-row.row cs z (f.0 ∙ size_is o) j.is ∙ ap (λ y. record { coefficients = cs; right = y }) t in
    changed_as _ _ _ _ (sym (ap (λ y. first_fault (row_checks (job_of o) cs c.args.letter y)) t) ∙ j.passed)
    (c.join.ensures ∙ ap₂ (λ r w. with_rows (job_of o) (rows_of r w)) (sym j.named) row)
