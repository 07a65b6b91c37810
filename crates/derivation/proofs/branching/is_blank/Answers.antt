use Rattle.std.proofs.Common.{◌≡◌, take, pos, ◌∙◌, rules}
use borrow.Author.Tests.{tests}
use Rattle.std.specs.List.{list_all}
use Rattle.std.proofs.lemmas.Iterator.{YieldsList-from_slice, YieldsList-from_take}
use Rattle.std.proofs.lemmas.Iterator.Consumers.{YieldsList-at}
use Rattle.std.proofs.lemmas.Iterator.Search.{all_from_yields_List}
use Rattle.terms.specs.Integers.{eq_z}
use Rattle.derivation.proofs.EveryTest.{every-list_all}
use Rattle.derivation.proofs.branching.is_blank.Goals as goal

pub returns : goal.returns
returns c =
    let cs = c.args.row.now.coefficients.items in let n = c.args.n in
    let road = YieldsList-from_take n (YieldsList-at c.take.ensures.source (YieldsList-from_slice cs c.iter.ensures.rest)) c.take.ensures.count in
    let e : c.all.result ≡ list_all (eq_z (pos 0)) (take n cs) = all_from_yields_List (eq_z (pos 0)) _ _ c.all.result c.all.ensures.ran road (λ x b q k. search (rules, tests)) in
    e ∙ every-list_all (eq_z (pos 0)) (take n cs)
