use Rattle.std.proofs.Common.{◌∙◌, ap, subst, List, ℕ, ℤ}
use Rattle.spelling.specs.StepsWritten.{bytes16, map_of, numbers_bytes}
use Rattle.writing.specs.Laid.{Lays}
use Rattle.writing.proofs.LaidBytes.{lays_then}
use Rattle.writing.proofs.pen.Pen.put_mapped.Goals as goal

pub returns : goal.returns
returns c =
    let map = subst (λ (bs : List ℕ). Lays c.args.self.now bs c.put.new.self) (c.to_le_bytes.ensures ∙ ap bytes16 (c.map_of.ensures ∙ ap map_of c.values-numbers.ensures)) c.put.ensures in
    let numbers = subst (λ (xs : List ℤ). Lays c.put.new.self (numbers_bytes xs) c.put_numbers.new.self) c.values-numbers.ensures c.put_numbers.ensures in
    lays_then c.requires.room map numbers
