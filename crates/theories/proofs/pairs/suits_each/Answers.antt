use Rattle.std.proofs.Common.{rules, tests, ◌∙◌}
use Rattle.std.proofs.lemmas.Iterator.{YieldsList-from_slice}
use Rattle.std.proofs.lemmas.Iterator.Search.{all_from_yields_List}
use Rattle.theories.proofs.Told.{every_all}
use Rattle.theories.proofs.pairs.suits_each.Goals as goal

pub returns : goal.returns
returns g c =
    let suited = g.P.Part.suited c.args.plan.now c.args.part.now in
    all_from_yields_List suited _ _ c.all.result c.all.ensures.ran (YieldsList-from_slice c.args.others.now c.iter.ensures.rest) (λ x b q k. search (rules, tests)) ∙ every_all suited c.args.others.now
