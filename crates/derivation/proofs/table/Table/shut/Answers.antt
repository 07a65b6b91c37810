use Rattle.std.proofs.Common.{◌≡◌, ℕ, true, List, [], ◌∷◌, ◌++◌, map, reverse, length, get_or, take, Some, sym, ap, ◌∙◌}
use Rattle.std.proofs.lemmas.List.{reverse-append}
use Rattle.arrayvec.specs.ArrayVec.{ArrayVec}
use Rattle.terms.specs.declared.row.Row.{Row as Stored}
use Rattle.terms.specs.Stored.{row_of}
use Rattle.derivation.specs.declared.table.Table.{Table}
use Rattle.derivation.specs.Stacked.{heights_of, rights_of, stacked}
use Rattle.derivation.specs.TableView.{shut_by}
use Rattle.derivation.proofs.TableShut.{given_kept, stack_kept, table_is}
use Rattle.derivation.proofs.table.Table.shut.Goals as goal

-- the newest height in front of the others
newest : (o : Table) (w v : ArrayVec ℕ) (h : ℕ) → o.waiting ≡ Some w → w.items ≡ v.items ++ h ∷ [] → heights_of o.waiting ≡ h ∷ reverse v.items
newest o w v h is e = ap heights_of is ∙ ap reverse e ∙ reverse-append v.items (h ∷ [])

-- the row there
read_at : (o : Table) (rows : List Stored) (h : ℕ) (r : Stored) → r ≡ get_or rows h r → rows ≡ o.rows.items → r ≡ get_or o.rows.items h r
read_at o rows h r is e = is ∙ ap (λ rs. get_or rs h r) e

pub invariant_of-self-2 : goal.invariant_of-self-2
invariant_of-self-2 c =
    let o = c.args.self.now in let h = c.in-Some-pop.height in let r = c.index-as_slice-height.result in let s = c.in-Some-opposite.opposite in let older = reverse c.pop.new.self.items in
    let waits = newest o c.in-Some.waiting c.pop.new.self h c.in-Some.is c.in-Some-pop.ensures.items in
    let there = read_at o c.as_slice.result.now h r c.index-as_slice-height.is c.as_slice.ensures.value in
    let left = c.push.ensures.items ∙ ap (λ rs. rs ++ s ∷ []) c.truncate-2.ensures.items in
    record {
      narrow = o.narrow;
      stack = ap (λ rs. stacked o.given (rights_of rs) (length rs) older) left ∙ stack_kept o h older waits r there s c.in-Some-opposite.ensures;
    }

pub returns : goal.returns
returns c =
    let o = c.args.self.now in let h = c.in-Some-pop.height in let r = c.index-as_slice-height.result in let s = c.in-Some-opposite.opposite in let older = reverse c.pop.new.self.items in
    let waits = newest o c.in-Some.waiting c.pop.new.self h c.in-Some.is c.in-Some-pop.ensures.items in
    let there = read_at o c.as_slice.result.now h r c.index-as_slice-height.is c.as_slice.ensures.value in
    let left = c.push.ensures.items ∙ ap (λ rs. rs ++ s ∷ []) c.truncate-2.ensures.items in
    let rows = map (row_of o.size) o.rows.items in let given = map (row_of o.size) (take o.given o.rows.items) in
    record {
      held = ap (λ rs. record { rows = rs; heights = older; mark = true }) (ap (map (row_of o.size)) left ∙ table_is o h older waits r there s c.in-Some-opposite.ensures) ∙ sym (ap (shut_by given rows) waits);
      fixed = ap (λ rs. record { size = o.size; given = rs }) (ap (λ rs. map (row_of o.size) (take o.given rs)) left ∙ given_kept o h older waits r there s c.in-Some-opposite.ensures);
    }
