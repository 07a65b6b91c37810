use Rattle.std.proofs.Common.{◌≡◌, ℕ, ◌+◌, ◌*◌, ◌<◌, ltb, List, [], map, length, get_or, None, sym, ap, ◌∙◌, ap₂, arith}
use Rattle.std.proofs.lemmas.List.{get_or-map, length-map}
use Rattle.std.proofs.lemmas.Bool.{ltb-true}
use Rattle.terms.specs.declared.fault.Cause.TheVariants.{NoSuchPlace}
use Rattle.terms.specs.Bytes.{nat16}
use Rattle.terms.specs.Rows.{Row}
use Rattle.law.specs.Bounds.{held_at}
use Rattle.law.specs.Lines.{places_check, row_at}
use Rattle.law.specs.Spelt.{places_of}
use Rattle.derivation.specs.TableView.{held_of}
use Rattle.derivation.proofs.EveryTest.{passed_at}
use Rattle.derivation.proofs.table.Table.held.Goals as goal

-- a place as it is read
place_is : (items : List (List ℕ)) (k place : ℕ) → k < length (map nat16 items) → place ≡ nat16 (get_or items k []) → place ≡ get_or (map nat16 items) k 0
place_is items k place h e = e ∙ sym (get_or-map nat16 items k [] 0 (omega (arith, h, length-map items nat16)))

-- a place that passed its check is in the table
place_in : (t : List Row) (ps : List ℕ) (k place : ℕ) → places_check t ps ≡ None → k < length ps → place ≡ get_or ps k 0 → place < length t
place_in t ps k place e h is = omega (arith, is, ltb-true (get_or ps k 0) (length t) (passed_at (λ p. ltb p (length t)) 0 NoSuchPlace 0 ps e k h))

pub row-above-requires : goal.row-above-requires
row-above-requires c =
    let r = c.requires in let ps = places_of c.args.places.now in let k = 2 * c.args.variable in
    let h : k < length ps = omega (arith, r.within, r.long) in
    place_in (held_of c.args.self.now).rows ps k _ r.there h (place_is c.args.places.now.items.now k _ h c.place_of.ensures)

pub row-below-requires : goal.row-below-requires
row-below-requires c =
    let r = c.requires in let ps = places_of c.args.places.now in let k = 2 * c.args.variable + 1 in
    let h : k < length ps = omega (arith, r.within, r.long) in
    place_in (held_of c.args.self.now).rows ps k _ r.there h (place_is c.args.places.now.items.now k _ h c.place_of-2.ensures)

pub returns : goal.returns
returns c =
    let o = c.args.self.now in let t = (held_of o).rows in let r = c.requires in let items = c.args.places.now.items.now in let v = c.args.variable in
    c.held_at.ensures
    ∙ ap₂ (held_at o.size v)
    (c.row-above.ensures ∙ ap (row_at t) (place_is items (2 * v) _ (omega (arith, r.within, r.long)) c.place_of.ensures))
    (c.row-below.ensures ∙ ap (row_at t) (place_is items (2 * v + 1) _ (omega (arith, r.within, r.long)) c.place_of-2.ensures))
