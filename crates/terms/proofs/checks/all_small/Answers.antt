use Rattle.std.proofs.Common.{◌≡◌, not, ap, ◌∙◌, rules, position, option_map}
use borrow.Author.Tests.{tests}
use Rattle.std.proofs.lemmas.Iterator.{YieldsList-from_slice}
use Rattle.std.proofs.lemmas.Iterator.Search.{position_from_yields_List}
use Rattle.terms.specs.declared.fault.Cause.TheVariants.{OutOfRange}
use Rattle.terms.specs.Faults.{answered, fault}
use Rattle.terms.specs.Limits.{million, within}
use Rattle.terms.proofs.FirstFault.{first_at}
use Rattle.terms.proofs.checks.all_small.Goals as goal

pub returns : goal.returns
returns c =
    let e : c.position.result ≡ position (λ n. not (within million n)) c.args.numbers.now =
    position_from_yields_List (λ n. not (within million n)) _ _ c.position.result c.position.ensures.ran (YieldsList-from_slice c.args.numbers.now c.iter.ensures.rest) (λ x b q k. search (rules, tests)) in
    c.need_none.ensures ∙ ap answered (ap (option_map (fault OutOfRange)) (search (rules, tests, e)) ∙ first_at (within million) OutOfRange c.args.numbers.now)
