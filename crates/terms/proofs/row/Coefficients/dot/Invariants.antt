use Rattle.std.proofs.Common.{◌≡◌, ◌*◌, ◌≤◌, length, min, take, drop, ◌-ℤ◌, nat_abs}
use Rattle.terms.specs.Rows.{dot}
use Rattle.terms.proofs.row.Coefficients.dot.Given as goal

-- the sum lacks what is left of both lists
abbrev pub invariant-loop-i : goal.invariant-loop-i
invariant-loop-i l = (l.sum ≡ (dot l.self.items l.front -ℤ dot (drop l.i l.self.items) (drop l.i l.front))) × (nat_abs l.sum ≤ l.i * 2147483648000000)
