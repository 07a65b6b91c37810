use Rattle.std.proofs.Common.{◌≡◌, ◌∙◌, Bool, not, option_map, position, sym, ap, rules}
use borrow.Author.Tests.{tests}
use Rattle.std.proofs.lemmas.Iterator.{YieldsList-from_slice}
use Rattle.std.proofs.lemmas.Iterator.Search.{position_from_yields_List}
use Rattle.std.proofs.lemmas.Simd.{map-map}
use Rattle.terms.specs.declared.fault.Cause.TheVariants.{OutOfRange}
use Rattle.terms.specs.Faults.{answered, fault, first_unless}
use Rattle.terms.proofs.FirstFault.{first_at}
use Rattle.law.specs.declared.premise.Premise.{Premise}
use Rattle.law.specs.Lines.{between}
use Rattle.law.specs.Spelt.{premise_in}
use Rattle.derivation.proofs.lines.check_multipliers.Goals as goal

pub returns : goal.returns
returns c =
    let items = c.args.premises.now.items.now in
    let test : Premise → Bool = λ (p : Premise). between 1 10000 p.multiplier in
    let e : c.position.result ≡ position (λ bs. not (test (premise_in bs))) items =
    position_from_yields_List (λ bs. not (test (premise_in bs))) _ _ c.position.result c.position.ensures.ran (YieldsList-from_slice items c.iter.ensures.rest) (λ x b q k. search (rules, tests)) in
    c.need_none.ensures ∙ ap answered (ap (option_map (fault OutOfRange)) e ∙ first_at (λ bs. test (premise_in bs)) OutOfRange items ∙ sym (ap (first_unless OutOfRange 0) (map-map test premise_in items)))
