use Rattle.std.proofs.Common.{◌≡◌, length}
use Rattle.law.specs.Spelt.{lines_of}
use Rattle.derivation.proofs.ChainedLines.{Chaining}
use Rattle.derivation.proofs.lines.Chain.add_all.Given as goal

abbrev pub invariant-loop-line : goal.invariant-loop-line
invariant-loop-line l =
    (goal.iterator-loop-line).can_next l.line-iterator
    × (goal.iterator-loop-line).is_finite l.line-iterator
    × (l.self.rows.ghost_name ≡ l.fn.self.rows.ghost_name)
    × (l.self.size ≡ l.fn.self.size)
    × (l.self.saved ≡ length l.fn.self.rows.now.items)
    × Chaining l.fn.self.size l.fn.self.rows.now.items l.self.rows.now.items (lines_of l.lines) (lines_of l.line-iterator) l.last
