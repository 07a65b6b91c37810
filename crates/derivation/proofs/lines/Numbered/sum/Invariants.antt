use Rattle.std.proofs.Common.{ℕ, ◌≤◌}
use Rattle.law.specs.Spelt.{premises_of}
use Rattle.derivation.specs.Sums.{table_of}
use Rattle.derivation.proofs.SumsGrown.{Summing}
use Rattle.derivation.proofs.lines.Numbered.sum.Given as goal

abbrev pub invariant-loop-item : goal.invariant-loop-item
invariant-loop-item l = (n : ℕ) → n ≤ 16 → Summing n (table_of n l.rows) (premises_of l.self.line.premises) l.item-index l.sums.coefficients l.sums.right
