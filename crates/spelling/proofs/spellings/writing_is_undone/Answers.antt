use Rattle.spelling.proofs.ReadsBack.{reads_back}
use Rattle.spelling.proofs.spellings.writing_is_undone.Goals as goal

pub returns : goal.returns
returns c = reads_back
