use Rattle.weeks.proofs.Known.{weeks_known}
use Rattle.weeks.proofs.weeks_go_as_known.Goals as goal

pub returns : goal.returns
returns c = weeks_known
