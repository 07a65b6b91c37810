use Rattle.std.proofs.Common.{◌≡◌, ◌≤◌, Bool, not, length, take, option_map, position, ap, ◌∙◌, arith, rules}
use borrow.Author.Tests.{tests}
use Rattle.std.proofs.lemmas.List.{length-take-le}
use Rattle.std.proofs.lemmas.Iterator.{YieldsList-from_slice}
use Rattle.std.proofs.lemmas.Iterator.Search.{position_from_yields_List}
use Rattle.terms.specs.declared.fault.Cause.TheVariants.{RowMissed}
use Rattle.terms.specs.declared.row.Row.{Row as Stored}
use Rattle.terms.specs.Faults.{answered, fault, first_unless}
use Rattle.terms.specs.Rows.{meets}
use Rattle.terms.specs.Stored.{whole}
use Rattle.terms.proofs.FirstFault.{first_at}
use Rattle.derivation.specs.Stacked.{heights_of, rights_of}
use Rattle.derivation.proofs.RowsMet.{rows_met}
use Rattle.derivation.proofs.Stacks.{stacked_given}
use Rattle.derivation.proofs.table.Table.check_met.Goals as goal

pub slice_bounds-given-end : goal.slice_bounds-given-end
slice_bounds-given-end c =
    let o = c.args.self.now in let rows = c.as_slice.result.now in
    let given = stacked_given o.given (rights_of o.rows.items) (length o.rows.items) (heights_of o.waiting) o.stack in
    let few : o.given ≤ length rows = omega (arith, given, ap length c.as_slice.ensures.value) in
    omega (arith, length-take-le o.given rows few)

pub returns : goal.returns
returns c =
    let o = c.args.self.now in let x = c.args.plan.now in let rows = take o.given o.rows.items in
    let test : Stored → Bool = λ r. meets x (whole r) in
    let road = YieldsList-from_slice rows (c.iter.ensures.rest ∙ ap (take o.given) c.as_slice.ensures.value) in
    let e : c.position.result ≡ position (λ r. not (test r)) rows = position_from_yields_List (λ r. not (test r)) _ _ c.position.result c.position.ensures.ran road (λ x b q k. search (rules, tests)) in
    c.need_none.ensures ∙ ap answered (ap (option_map (fault RowMissed)) e ∙ first_at test RowMissed rows ∙ ap (first_unless RowMissed 0) (rows_met o.size x rows c.requires))
