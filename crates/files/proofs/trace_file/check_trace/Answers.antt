use Rattle.std.proofs.Common.{◌≡◌, Ok, sym, ap, ◌∙◌, subst}
use Rattle.theories.specs.Meaning.{on_bytes}
use Rattle.law.specs.Pile.{Verdict, opened, verdict}
use Rattle.derivation.specs.JobView.{job_of}
use Rattle.derivation.specs.ProofView.{moment_held}
use Rattle.derivation.specs.VerdictView.{verdict_of}
use Rattle.files.specs.Shown.{Shown}
use Rattle.files.specs.TraceFiles.{closed_at, trace_file}
use Rattle.files.specs.TraceViews.{moment_left}
use Rattle.files.proofs.TraceReaches.{trace_leads}
use Rattle.files.proofs.TraceShown.{shown_by}
use Rattle.files.proofs.trace_file.check_trace.Goals as goal

pub returns : goal.returns
returns g c =
    let o = c.open-proof.ensures in let f = c.follow.ensures in let trace = c.args.trace.now in
    let j = job_of c.args.job in let th = on_bytes g.T.Theory.reads (g.T.Theory.means c.args.theory) in let w = g.T.Theory.width in
    let m = moment_held c.follow.new.proof in
    let ends : trace_file j th w (opened j) trace ≡ Ok m =
    sym (λ i. trace_file (o.job i) (on_bytes g.T.Theory.reads (g.T.Theory.means (o.theory i))) w (o.moment i) trace) ∙ sym f.moment ∙ ap (moment_left m) c.in_ok-follow.was in
    let says : verdict_of c.close.result ≡ verdict j m = c.close.ensures ∙ ap (λ q. verdict q m) (f.job ∙ o.job) in
    let leads = trace_leads j th w (opened j) m trace ends in
    let reached = (o.law.one_outcome leads.0 m).1 leads.1 in
    record {
      answer = ap Ok says ∙ sym (ap (closed_at j) ends);
      shown = subst (λ (v : Verdict). Shown j th v) (sym says) (shown_by j th m (verdict j m) (o.law.no_model_lost leads.0 m reached) (o.law.closing_true leads.0 m reached));
      law = o.law;
    }
