use Rattle.std.proofs.Common.{◌≡◌, ap, ◌∙◌, rules, not, option_map, position}
use borrow.Author.Tests.{tests}
use Rattle.std.proofs.lemmas.Iterator.{YieldsList-from_slice}
use Rattle.std.proofs.lemmas.Iterator.Consumers.{YieldsList-from_enumerate}
use Rattle.std.proofs.lemmas.Iterator.Search.{position_from_yields_List}
use Rattle.std.specs.List.{enumerate_from}
use Rattle.terms.specs.declared.fault.Cause.TheVariants.{BadMap}
use Rattle.terms.specs.Faults.{answered, fault, first_unless}
use Rattle.terms.proofs.FirstFault.{first_at}
use Rattle.fields.proofs.Spreading.{spelt_at, tests_by_place}
use Rattle.fields.proofs.maps.Mapped.check.Goals as goal

pub returns : goal.returns
returns c =
    let vs = c.args.self.now.numbers in
    let p = spelt_at c.args.n c.args.self.now.map in
    let e : c.position.result ≡ position (λ x. not (p x)) (enumerate_from 0 vs) =
    position_from_yields_List (λ x. not (p x)) _ _ c.position.result c.position.ensures.ran (YieldsList-from_enumerate (YieldsList-from_slice vs (cc)) (cc)) (λ x b q k. search (rules, tests)) in
    c.need_none.ensures ∙ ap answered (ap (option_map (fault BadMap)) e ∙ first_at p BadMap (enumerate_from 0 vs) ∙ ap (first_unless BadMap 0) (tests_by_place c.args.n c.args.self.now.map vs))
