use Rattle.std.proofs.Common.{◌-◌, length, Err, sym, ap, ◌∙◌, arith}
use Rattle.std.proofs.lemmas.Result.{err_from_is_err_and}
use Rattle.terms.specs.declared.fault.Cause.TheVariants.{FileTooLong}
use Rattle.terms.specs.Faults.{unless}
use Rattle.files.specs.JobFiles.{job_and_parts, job_way, start}
use Rattle.files.specs.JobViews.{leaving, reading_of, spelt}
use Rattle.files.specs.Places.{fault_at}
use Rattle.files.proofs.RecordsRead.{begins, fits_then, goes_on, moved, placed_err, placed_ok, stops}
use Rattle.files.proofs.Shorter.{record_shorter}
use Rattle.files.proofs.job_file.read_job.Goals as goal

pub loop-records-init : goal.loop-records-init
loop-records-init c =
    let e = c.in_ok-records.ensures in
    (begins job_way start c.args.file.now c.in_ok-records.records.nth (reading_of c.new-reader.result) c.in_ok-records.records.bytes.now e.2 c.new-reader.ensures e.3, e.0, e.1)

pub returns-in_err-rest : goal.returns-in_err-rest
returns-in_err-rest c =
    let file = c.args.file.now in let l = c.loop-records in let i = l.invariant in
    let p = err_from_is_err_and c.from_residual-in_err-rest.result c.from_residual-in_err-rest.ensures.1 in
    let q = placed_err l.records.file l.records.nth (l.records.total - length l.records.bytes.now) c.record.result _ c.in_err-rest.ensures in
    let r = ap (leaving (reading_of c.record.new.self)) (sym q.1) ∙ c.record.ensures in
    ap spelt (p.1 ∙ ap Err (p.2 ∙ q.2 ∙ (λ k. fault_at (i.1 k) l.records.nth (i.2 k - length l.records.bytes.now) q.0)))
    ∙ ap job_and_parts (stops job_way (length file) l.records.nth (reading_of l.reader) l.records.bytes.now _ i.0.0 q.0 i.0.1 i.0.2 (sym c.loop-records-test.ensures) r
    ∙ sym (fits_then job_way start file (ap (λ b. unless b FileTooLong 0) c.in_ok-records.ensures.4)))

pub pass-requires : goal.pass-requires
pass-requires c =
    let q = placed_ok _ _ _ c.record.result _ c.in_ok-rest.ensures in
    record_shorter (reading_of c.loop-records.reader) (reading_of c.record.new.self) c.loop-records.records.bytes.now c.in_ok-rest.rest.now (ap (leaving (reading_of c.record.new.self)) (sym q) ∙ c.record.ensures)

pub loop-records-smaller : goal.loop-records-smaller
loop-records-smaller c =
    let q = placed_ok _ _ _ c.record.result _ c.in_ok-rest.ensures in
    let s = record_shorter (reading_of c.loop-records.reader) (reading_of c.record.new.self) c.loop-records.records.bytes.now c.in_ok-rest.rest.now (ap (leaving (reading_of c.record.new.self)) (sym q) ∙ c.record.ensures) in
    let l = ap length c.pass.ensures.bytes in
    omega (arith, s, l)

pub loop-records-preserved : goal.loop-records-preserved
loop-records-preserved c =
    let file = c.args.file.now in let l = c.loop-records in let i = l.invariant in let t = c.pass.ensures.place in
    let q = placed_ok _ _ _ c.record.result _ c.in_ok-rest.ensures in
    let r = ap (leaving (reading_of c.record.new.self)) (sym q) ∙ c.record.ensures in (
      moved job_way (length file) (reading_of c.record.new.self) _ _ _ _ _ t.2 c.pass.ensures.bytes
          (goes_on job_way (length file) l.records.nth (reading_of l.reader) l.records.bytes.now _ record_shorter i.0.0 (reading_of c.record.new.self) c.in_ok-rest.rest.now i.0.1 i.0.2 (sym c.loop-records-test.ensures) r),
      t.0 ∙ i.1,
      t.1 ∙ i.2,
    )
