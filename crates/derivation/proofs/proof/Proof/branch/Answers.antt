use Rattle.std.proofs.Common.{refl, ap, ◌∙◌, w64}
use Rattle.std.proofs.lemmas.Int.{to_z-of_z}
use Rattle.law.specs.Calls.Call.{branch}
use Rattle.law.specs.Pile.{called}
use Rattle.derivation.specs.ProofView.{meaning_held}
use Rattle.derivation.specs.StateView.{job_in, moment_of}
use Rattle.derivation.proofs.proof.Proof.branch.Goals as goal

pub returns : goal.returns
returns g c =
    let s = c.args.self.now.state in let th = meaning_held g.T.Theory.reads g.T.Theory.means c.args.self.now in let w = c.branch-self.ensures th in
    record {
      step = w.step ∙ ap (λ z. called (job_in s) th (moment_of s) (branch (record { coefficients = c.args.coefficients.now; right = z }))) (to_z-of_z w64 c.args.right c.ranges.right);
      job = w.job;
      theory = refl;
    }
