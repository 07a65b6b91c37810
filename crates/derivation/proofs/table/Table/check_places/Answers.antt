use Rattle.std.proofs.Common.{◌≡◌, ℕ, Bool, not, ltb, List, length, option_map, position, sym, ap, ◌∙◌, rules}
use borrow.Author.Tests.{tests}
use Rattle.std.proofs.lemmas.Iterator.{YieldsList-from_slice}
use Rattle.std.proofs.lemmas.Iterator.Search.{position_from_yields_List}
use Rattle.std.proofs.lemmas.Simd.{map-map}
use Rattle.terms.specs.declared.fault.Cause.TheVariants.{NoSuchPlace}
use Rattle.terms.specs.Bytes.{nat16}
use Rattle.terms.specs.Faults.{answered, fault, first_unless}
use Rattle.terms.proofs.FirstFault.{first_at}
use Rattle.derivation.specs.TableView.{held_of}
use Rattle.derivation.proofs.table.Table.check_places.Goals as goal

pub returns : goal.returns
returns c =
    let o = c.args.self.now in let items = c.args.places.now.items.now in
    let test : List ℕ → Bool = λ item. ltb (nat16 item) (length (held_of o).rows) in
    let e : c.position.result ≡ position (λ item. not (test item)) items = position_from_yields_List (λ item. not (test item)) _ _ c.position.result c.position.ensures.ran (YieldsList-from_slice items c.iter.ensures.rest) (λ x b q k. search (rules, tests)) in
    c.need_none.ensures ∙ ap answered (ap (option_map (fault NoSuchPlace)) e ∙ first_at test NoSuchPlace items ∙ sym (ap (first_unless NoSuchPlace 0) (map-map (λ p. ltb p (length (held_of o).rows)) nat16 items)))
