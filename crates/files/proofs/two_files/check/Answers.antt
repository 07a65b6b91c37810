use Rattle.std.proofs.Common.{Ok, sym, ap, ◌∙◌}
use Rattle.derivation.specs.JobView.{job_of}
use Rattle.files.specs.JobViews.{parts_of}
use Rattle.files.specs.Places.{then_file}
use Rattle.files.specs.TraceFiles.{trace_verdict}
use Rattle.files.specs.TwoFiles.{meaning_of, width_of}
use Rattle.files.proofs.two_files.check.Goals as goal

pub returns-in-Shared-clause-answer : goal.returns-in-Shared-clause-answer
returns-in-Shared-clause-answer c =
    let spelt = sym c.in_ok-job.ensures ∙ ap (λ t. Ok (job_of c.in_ok-job.field-0.job, parts_of t)) c.in-Shared.is in
    c.check_trace-in-Shared.ensures.answer ∙ sym (ap (λ r. then_file r (λ p. trace_verdict p.0 (meaning_of p.1) (width_of p.1) c.args.trace.now)) spelt)

pub returns-in-OneVat-clause-answer : goal.returns-in-OneVat-clause-answer
returns-in-OneVat-clause-answer c =
    let spelt = sym c.in_ok-job.ensures ∙ ap (λ t. Ok (job_of c.in_ok-job.field-0.job, parts_of t)) c.in-OneVat.is in
    c.check_trace-in-OneVat.ensures.answer ∙ sym (ap (λ r. then_file r (λ p. trace_verdict p.0 (meaning_of p.1) (width_of p.1) c.args.trace.now)) spelt)
