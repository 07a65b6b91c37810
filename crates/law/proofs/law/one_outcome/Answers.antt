use Rattle.law.proofs.Outcomes.{one_outcome}
use Rattle.law.proofs.law.one_outcome.Goals as goal

pub returns : goal.returns
returns c = one_outcome
