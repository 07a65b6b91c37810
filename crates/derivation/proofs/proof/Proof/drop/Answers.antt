use Rattle.std.proofs.Common.{refl}
use Rattle.derivation.specs.ProofView.{meaning_held}
use Rattle.derivation.proofs.proof.Proof.drop.Goals as goal

pub returns : goal.returns
returns g c = let w = c.drop_at.ensures (meaning_held g.T.Theory.reads g.T.Theory.means c.args.self.now) in record { step = w.step; job = w.job; theory = refl }
