use Rattle.law.proofs.Tables.{holds_the_pile}
use Rattle.law.proofs.law.table_holds_the_pile.Goals as goal

pub returns : goal.returns
returns c = holds_the_pile
