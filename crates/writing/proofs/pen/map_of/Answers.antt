use Rattle.std.proofs.Common.{◌∙◌, rules}
use borrow.Author.Tests.{tests}
use Rattle.std.proofs.lemmas.Iterator.Adapters.{YieldsList-from_rev_slice}
use Rattle.std.proofs.lemmas.Iterator.Consumers.{fold_from_yields_List}
use Rattle.writing.proofs.MapsMade.{map_made, with_bit}
use Rattle.writing.proofs.pen.map_of.Goals as goal

pub returns : goal.returns
returns c =
    let vs = c.args.numbers.now in
    fold_from_yields_List _ with_bit 0 c.fold.result c.fold.ensures.ran (YieldsList-from_rev_slice vs (cc)) (λ a x b q k. search (rules, tests))
    ∙ map_made vs c.requires
