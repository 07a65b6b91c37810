use Rattle.spelling.proofs.SpeltOnce.{one_spelling}
use Rattle.spelling.proofs.spellings.spelling_is_one.Goals as goal

pub returns : goal.returns
returns c = one_spelling
