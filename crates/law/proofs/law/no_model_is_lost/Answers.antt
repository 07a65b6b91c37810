use Rattle.law.proofs.Derivations.{no_model_lost}
use Rattle.law.proofs.law.no_model_is_lost.Goals as goal

pub returns : goal.returns
returns c = no_model_lost
