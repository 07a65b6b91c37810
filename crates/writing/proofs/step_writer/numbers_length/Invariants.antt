use Rattle.std.proofs.Common.{◌≡◌, ◌*◌, ◌≤◌, length, take}
use Rattle.spelling.specs.StepsWritten.{numbers_bytes}
use Rattle.writing.proofs.step_writer.numbers_length.Given as goal

-- the bytes of the numbers so far, four of each at most
abbrev pub invariant-loop-number : goal.invariant-loop-number
invariant-loop-number l = (l.total ≡ length (numbers_bytes (take l.number-index l.numbers))) × (l.total ≤ 4 * l.number-index)
