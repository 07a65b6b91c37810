use Rattle.std.proofs.Common.{◌≡◌, map, ◌∙◌}
use Rattle.theories.specs.Meaning.{on_bytes}
use Rattle.law.specs.Pile.{after, opened}
use Rattle.law.specs.StepView.{call_of}
use Rattle.derivation.specs.JobView.{job_of}
use Rattle.derivation.specs.ProofView.{moment_held}
use Rattle.derivation.proofs.running.run.Goals as goal

pub returns : goal.returns
returns g c =
    let o = c.open-proof.ensures in let p = c.perform_all.ensures in
    let j = job_of c.args.job in let th = on_bytes g.T.Theory.reads (g.T.Theory.means c.args.theory) in let calls = map call_of c.args.steps.now in
    let m = moment_held c.perform_all.new.self in
    let is : m ≡ after j th (opened j) calls = p.moment ∙ (λ i. after (o.job i) (on_bytes g.T.Theory.reads (g.T.Theory.means (o.theory i))) (o.moment i) calls) in
    let reached = (o.law.one_outcome calls m).1 is in
    record {
      job = p.job ∙ o.job;
      theory = p.theory ∙ o.theory;
      law = o.law;
      sized = o.sized;
      reached = reached;
      kept = o.law.no_model_lost calls m reached;
      closes = o.law.closing_true calls m reached;
    }
