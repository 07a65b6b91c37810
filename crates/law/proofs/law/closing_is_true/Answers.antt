use Rattle.law.proofs.Derivations.{closing_true}
use Rattle.law.proofs.law.closing_is_true.Goals as goal

pub returns : goal.returns
returns c = closing_true
