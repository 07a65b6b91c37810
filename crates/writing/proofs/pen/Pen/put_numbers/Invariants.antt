use Rattle.std.proofs.Common.{take}
use Rattle.spelling.specs.StepsWritten.{numbers_bytes}
use Rattle.writing.specs.Laid.{Lays}
use Rattle.writing.proofs.pen.Pen.put_numbers.Given as goal

-- the numbers so far are laid
abbrev pub invariant-loop-number : goal.invariant-loop-number
invariant-loop-number l = Lays l.fn.self (numbers_bytes (take l.number-index l.numbers)) l.self
