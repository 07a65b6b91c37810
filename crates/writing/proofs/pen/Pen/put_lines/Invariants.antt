use Rattle.std.proofs.Common.{◌≡◌, List, ◌++◌}
use Rattle.law.specs.Calls.{Line}
use Rattle.law.specs.Spelt.{lines_of}
use Rattle.spelling.specs.StepsWritten.{lines_bytes}
use Rattle.writing.specs.Laid.{Lays}
use Rattle.writing.proofs.pen.Pen.put_lines.Given as goal

-- some lines are laid, and the others are left
abbrev pub invariant-loop-line : goal.invariant-loop-line
invariant-loop-line l = (done : List Line) × (done ++ lines_of l.line-iterator ≡ lines_of l.lines) × Lays l.fn.self (lines_bytes done) l.self
