use Rattle.std.proofs.Common.{◌≡◌, ℕ, Bool, not, List, option_map, position, ap, ◌∙◌, rules}
use borrow.Author.Tests.{tests}
use Rattle.std.specs.List.{zip}
use Rattle.std.proofs.lemmas.Iterator.{YieldsList-from_slice, YieldsList-from_zip}
use Rattle.std.proofs.lemmas.Iterator.Consumers.{YieldsList-at}
use Rattle.std.proofs.lemmas.Iterator.Search.{position_from_yields_List}
use Rattle.terms.specs.declared.difference.Difference.{Difference}
use Rattle.terms.specs.declared.fault.Cause.TheVariants.{PremiseNotShown}
use Rattle.terms.specs.Bytes.{nat16}
use Rattle.terms.specs.Faults.{answered, fault, first_unless}
use Rattle.terms.proofs.FirstFault.{first_at}
use Rattle.law.specs.Bounds.{shown_at}
use Rattle.derivation.specs.TableView.{held_of}
use Rattle.derivation.proofs.RulesChecked.{pairs_read}
use Rattle.derivation.proofs.table.Table.check_shown.Goals as goal

pub returns : goal.returns
returns c =
    let o = c.args.self.now in let ds = c.args.rule.now.premises.items in let items = c.args.places.now.items.now in
    let test : Difference × List ℕ → Bool = λ q. shown_at o.size (held_of o).rows q.0 (nat16 q.1) in
    let road = YieldsList-from_zip (YieldsList-at c.zip.ensures.first (YieldsList-from_slice ds (c.iter.ensures.rest ∙ c.deref.ensures.0))) (YieldsList-from_slice items c.zip.ensures.second.0) in
    let e : c.position.result ≡ position (λ q. not (test q)) (zip ds items) = position_from_yields_List (λ q. not (test q)) c.position.new.self _ c.position.result c.position.ensures.ran road (λ x b q k. search (rules, tests)) in
    c.need_none.ensures ∙ ap answered (ap (option_map (fault PremiseNotShown)) e ∙ first_at test PremiseNotShown (zip ds items) ∙ ap (first_unless PremiseNotShown 0) (pairs_read (shown_at o.size (held_of o).rows) nat16 ds items))
