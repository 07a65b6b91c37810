use Rattle.std.proofs.Common.{◌≡◌, ◌-◌, false, length, Err, sym, refl, ap, ◌∙◌, arith}
use Rattle.std.proofs.lemmas.Result.{err_from_is_err_and}
use Rattle.terms.specs.declared.fault.Cause.TheVariants.{FileTooLong}
use Rattle.terms.specs.Faults.{unless}
use Rattle.theories.specs.Meaning.{on_bytes}
use Rattle.derivation.specs.ProofView.{job_held, moment_held}
use Rattle.files.specs.Places.{fault_at}
use Rattle.files.specs.TraceFiles.{following, moment_in, record_done, trace_way}
use Rattle.files.specs.TraceViews.{moment_left, record_seen}
use Rattle.files.proofs.RecordsRead.{begins, fits_then, goes_on, moved, placed_err, placed_ok, stops}
use Rattle.files.proofs.TraceShorter.{done_shorter}
use Rattle.files.proofs.trace_file.follow.Goals as goal

pub loop-ended-init : goal.loop-ended-init
loop-ended-init g c =
    let p = c.args.proof.now in let e = c.in_ok-records.ensures in
    let way = trace_way (job_held p) (on_bytes g.T.Theory.reads (g.T.Theory.means p.theory)) g.T.Theory.width in
    (begins way (following false (moment_held p)) c.args.trace.now c.in_ok-records.records.nth (following false (moment_held p)) c.in_ok-records.records.bytes.now e.2 refl e.3, e.0, e.1, refl, refl)

pub returns-in_err-end-clause-moment : goal.returns-in_err-end-clause-moment
returns-in_err-end-clause-moment g c =
    let file = c.args.trace.now in let p = c.args.proof.now in let l = c.loop-ended in let i = l.invariant in let j = job_held p in let w = g.T.Theory.width in
    let th = on_bytes g.T.Theory.reads (g.T.Theory.means p.theory) in let start = following false (moment_held p) in let way = trace_way j th w in
    let s = following l.ended (moment_held l.proof) in
    let done : record_seen (moment_held c.do_record.new.proof) c.do_record.result ≡ record_done j th w s l.records.bytes.now
    = c.do_record.ensures.step ∙ (λ k. record_done (i.3 k) (on_bytes g.T.Theory.reads (g.T.Theory.means (i.4 k))) w s l.records.bytes.now) in
    let p₁ = err_from_is_err_and c.from_residual-in_err-end.result c.from_residual-in_err-end.ensures.1 in
    let q = placed_err l.records.file l.records.nth (l.records.total - length l.records.bytes.now) c.do_record.result _ c.in_err-end.ensures in
    let r = ap (record_seen (moment_held c.do_record.new.proof)) (sym q.1) ∙ done in
    ap (moment_left (moment_held c.do_record.new.proof)) (p₁.1 ∙ ap Err (p₁.2 ∙ q.2 ∙ (λ k. fault_at (i.1 k) l.records.nth (i.2 k - length l.records.bytes.now) q.0)))
    ∙ ap moment_in (stops way (length file) l.records.nth s l.records.bytes.now _ i.0.0 q.0 i.0.1 i.0.2 c.loop-ended-test.true r
    ∙ sym (fits_then way start file (ap (λ b. unless b FileTooLong 0) c.in_ok-records.ensures.4)))

pub pass-requires : goal.pass-requires
pass-requires g c =
    let l = c.loop-ended in
    let q = placed_ok _ _ _ c.do_record.result _ c.in_ok-end.ensures in
    done_shorter (job_held l.proof) (on_bytes g.T.Theory.reads (g.T.Theory.means l.proof.theory)) g.T.Theory.width (following false (moment_held l.proof)) (following c.in_ok-end.end (moment_held c.do_record.new.proof)) l.records.bytes.now c.in_ok-end.rest.now (ap (record_seen (moment_held c.do_record.new.proof)) (sym q) ∙ c.do_record.ensures.step)

pub loop-ended-smaller : goal.loop-ended-smaller
loop-ended-smaller g c =
    let l = c.loop-ended in
    let q = placed_ok _ _ _ c.do_record.result _ c.in_ok-end.ensures in
    let s = done_shorter (job_held l.proof) (on_bytes g.T.Theory.reads (g.T.Theory.means l.proof.theory)) g.T.Theory.width (following false (moment_held l.proof)) (following c.in_ok-end.end (moment_held c.do_record.new.proof)) l.records.bytes.now c.in_ok-end.rest.now (ap (record_seen (moment_held c.do_record.new.proof)) (sym q) ∙ c.do_record.ensures.step) in
    let n = ap length c.pass.ensures.bytes in
    omega (arith, s, n)

pub loop-ended-preserved : goal.loop-ended-preserved
loop-ended-preserved g c =
    let file = c.args.trace.now in let p = c.args.proof.now in let l = c.loop-ended in let i = l.invariant in let j = job_held p in let w = g.T.Theory.width in
    let th = on_bytes g.T.Theory.reads (g.T.Theory.means p.theory) in let way = trace_way j th w in
    let s = following l.ended (moment_held l.proof) in let e = c.pass.ensures.place in
    let done : record_seen (moment_held c.do_record.new.proof) c.do_record.result ≡ record_done j th w s l.records.bytes.now
    = c.do_record.ensures.step ∙ (λ k. record_done (i.3 k) (on_bytes g.T.Theory.reads (g.T.Theory.means (i.4 k))) w s l.records.bytes.now) in
    let q = placed_ok _ _ _ c.do_record.result _ c.in_ok-end.ensures in
    let r = ap (record_seen (moment_held c.do_record.new.proof)) (sym q) ∙ done in
    let t = following c.in_ok-end.end (moment_held c.do_record.new.proof) in (
      moved way (length file) t _ _ _ _ _ e.2 c.pass.ensures.bytes
          (goes_on way (length file) l.records.nth s l.records.bytes.now _ (done_shorter j th w) i.0.0 t c.in_ok-end.rest.now i.0.1 i.0.2 c.loop-ended-test.true r),
      e.0 ∙ i.1,
      e.1 ∙ i.2,
      c.do_record.ensures.job ∙ i.3,
      c.do_record.ensures.theory ∙ i.4,
    )
