use Rattle.std.proofs.Common.{◌∷◌, ◌++◌, [], ◌∙◌, subst, List, ℕ, sym, arith, length-append}
use Rattle.std.proofs.lemmas.List.{length-map}
use Rattle.law.specs.Spelt.{premise_in, premises_of}
use Rattle.spelling.specs.StepsWritten.{bytes32, premises_bytes}
use Rattle.writing.specs.Laid.{HasRoom, Lays}
use Rattle.writing.proofs.LaidBytes.{lays_then, then_room}
use Rattle.writing.proofs.pen.Pen.put_line.Goals as goal

pub put_premises-requires : goal.put_premises-requires
put_premises-requires c =
    let l = c.args.line.now in let ps = premises_bytes (premises_of l.premises) in
    let room = then_room (ps ++ bytes32 l.divisor) c.requires.room c.put.ensures in
    omega (arith, length-append ps (bytes32 l.divisor))

pub put-requires-2 : goal.put-requires-2
put-requires-2 c =
    let l = c.args.line.now in let ps = premises_bytes (premises_of l.premises) in
    let room = then_room (bytes32 l.divisor) (then_room (ps ++ bytes32 l.divisor) c.requires.room c.put.ensures) c.put_premises.ensures in
    subst (HasRoom c.put_premises.new.self) (sym c.to_le_bytes.ensures) room

pub returns : goal.returns
returns c =
    let l = c.args.line.now in let items = l.premises.items.now in let ps = premises_bytes (premises_of l.premises) in let divisor = bytes32 l.divisor in
    let count = subst (λ (k : ℕ). Lays c.args.self.now (k ∷ []) c.put.new.self) (c.len.ensures ∙ sym (length-map items premise_in)) c.put.ensures in
    let last = subst (λ (bs : List ℕ). Lays c.put_premises.new.self bs c.put-2.new.self) c.to_le_bytes.ensures c.put-2.ensures in
    lays_then c.requires.room count (lays_then (then_room (ps ++ divisor) c.requires.room count) c.put_premises.ensures last)
