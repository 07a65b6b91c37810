use Rattle.std.proofs.Common.{◌≡◌, Bool, take, ap, ◌∙◌, arith, rules}
use borrow.Author.Tests.{tests}
use Rattle.std.specs.List.{list_all}
use Rattle.std.proofs.lemmas.List.{length-take-le}
use Rattle.std.proofs.lemmas.Iterator.{YieldsList-from_slice}
use Rattle.std.proofs.lemmas.Iterator.Search.{all_from_yields_List}
use Rattle.terms.specs.declared.row.Row.{Row as Stored}
use Rattle.terms.specs.Rows.{meets}
use Rattle.terms.specs.Stored.{whole}
use Rattle.theories.specs.Pairs.{every}
use Rattle.derivation.proofs.EveryTest.{every-list_all}
use Rattle.derivation.proofs.RowsMet.{rows_met}
use Rattle.derivation.proofs.table.Table.is_met.Goals as goal

pub returns : goal.returns
returns c =
    let o = c.args.self.now in let x = take o.size c.args.point.now.items in let rows = o.rows.items in
    let test : Stored → Bool = λ r. meets x (whole r) in
    let e : c.all.result ≡ list_all test rows = all_from_yields_List test _ _ c.all.result c.all.ensures.ran (YieldsList-from_slice rows (c.iter.ensures.rest ∙ c.as_slice.ensures.value)) (λ x b q k. search (rules, tests)) in
    e ∙ every-list_all test rows ∙ ap every (rows_met o.size x rows (omega (arith, length-take-le o.size c.args.point.now.items (omega (arith, o.narrow, c.args.point.now.long)))))
