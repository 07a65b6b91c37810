use Rattle.std.proofs.Common.{ℕ, [], ◌∷◌, ◌++◌, map, sym, subst, length}
use Rattle.std.proofs.lemmas.List.{length-map}
use Rattle.terms.specs.Bytes.{nat16}
use Rattle.spelling.specs.StepsWritten.{places_bytes}
use Rattle.writing.specs.Laid.{Lays}
use Rattle.writing.proofs.LaidBytes.{lays_then, then_room}
use Rattle.writing.proofs.pen.Pen.put_infer.Goals as goal

pub put_places-requires : goal.put_places-requires
put_places-requires c =
    let clue = c.args.clue.now in let ps = map nat16 c.args.places.now in
    let count = subst (λ (k : ℕ). Lays c.put-2.new.self (k ∷ []) c.put-3.new.self) (sym (length-map c.args.places.now nat16)) c.put-3.ensures in
    then_room (places_bytes ps) (then_room (length ps ∷ places_bytes ps) (then_room (clue ++ length ps ∷ places_bytes ps) c.requires.room c.put.ensures) c.put-2.ensures) count

pub returns : goal.returns
returns c =
    let clue = c.args.clue.now in let ps = map nat16 c.args.places.now in
    let count = subst (λ (k : ℕ). Lays c.put-2.new.self (k ∷ []) c.put-3.new.self) (sym (length-map c.args.places.now nat16)) c.put-3.ensures in
    let after_letter = then_room (clue ++ length ps ∷ places_bytes ps) c.requires.room c.put.ensures in
    lays_then c.requires.room c.put.ensures (lays_then after_letter c.put-2.ensures (lays_then (then_room (length ps ∷ places_bytes ps) after_letter c.put-2.ensures) count c.put_places.ensures))
