use Rattle.std.proofs.Common.{◌≡◌, ◌*◌, ◌≤◌, true, List, ◌++◌, length}
use Rattle.law.specs.Calls.{Line}
use Rattle.law.specs.Spelt.{lines_of}
use Rattle.spelling.specs.StepsWritten.{lines_bytes, lines_counted}
use Rattle.writing.proofs.step_writer.lines_length.Given as goal

-- the length of some lines, whose premises can be counted; the others are left
abbrev pub invariant-loop-line : goal.invariant-loop-line
invariant-loop-line l =
    (done : List Line)
    × (done ++ lines_of l.line-iterator ≡ lines_of l.lines)
    × (l.total ≡ length (lines_bytes done))
    × (l.total ≤ 1025 * length done)
    × (lines_counted done ≡ true)
