use Rattle.std.proofs.Common.{sym, ap, ap₂, ◌∙◌, subst}
use Rattle.std.specs.Option.{ok_or}
use Rattle.std.specs.Slice.{IsItemAt}
use Rattle.theories.specs.Meaning.{premise_at, rule_between}
use Rattle.theories.proofs.Told.{difference_got}
use Rattle.theories.proofs.pairwise.PairwiseTheory.premise.Goals as goal

pub returns : goal.returns
returns g c =
    let between = g.P.RuledPart.kind.between in
    let lent = subst (λ ds. IsItemAt ds c.args.index c.get.result) (c.deref.ensures.0 ∙ c.premises.ensures) c.get.ensures.lookup in
    let got = difference_got (between c.in_ok-one.one c.in_ok-one.other).premises c.args.index c.get.result lent in
    let picked = sym c.in_ok-one.ensures.ok_part ∙ c.named.ensures in
    c.ok_or-2.ensures.value ∙ ap₂ ok_or c.copied.ensures c.no_rule-2.ensures ∙ got ∙ ap (λ o. premise_at (rule_between between o) c.args.index) picked
