use Rattle.law.proofs.Finish.{can_finish}
use Rattle.law.proofs.law.boxed_jobs_can_be_finished.Goals as goal

pub returns : goal.returns
returns c = can_finish
