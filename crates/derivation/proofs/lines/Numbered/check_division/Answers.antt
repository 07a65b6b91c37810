use Rattle.std.proofs.Common.{◌≡◌, not, ap, ◌∙◌, rules, position, option_map}
use borrow.Author.Tests.{tests}
use Rattle.std.proofs.lemmas.Iterator.{YieldsList-from_slice}
use Rattle.std.proofs.lemmas.Iterator.Search.{position_from_yields_List}
use Rattle.terms.specs.declared.fault.Cause.TheVariants.{NotDivisible}
use Rattle.terms.specs.Faults.{answered, fault}
use Rattle.terms.proofs.FirstFault.{first_at}
use Rattle.law.specs.Lines.{divides}
use Rattle.derivation.proofs.lines.Numbered.check_division.Goals as goal

pub returns : goal.returns
returns c =
    let d = c.args.self.now.line.divisor in
    let e : c.position.result ≡ position (λ n. not (divides d n)) c.args.sums.now =
    position_from_yields_List (λ n. not (divides d n)) _ _ c.position.result c.position.ensures.ran (YieldsList-from_slice c.args.sums.now c.iter.ensures.rest) (λ x b q k. search (rules, tests)) in
    c.need_none.ensures ∙ ap answered (ap (option_map (fault NotDivisible)) e ∙ first_at (divides d) NotDivisible c.args.sums.now)
