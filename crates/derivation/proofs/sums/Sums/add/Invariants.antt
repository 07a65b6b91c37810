use Rattle.std.proofs.Common.{◌≡◌, ℕ, ◌<◌, ◌≤◌, get_or, pos, ◌+ℤ◌, ◌*ℤ◌}
use Rattle.derivation.proofs.sums.Sums.add.Given as goal

-- the places so far have grown, the others not yet
abbrev pub invariant-loop-i : goal.invariant-loop-i
invariant-loop-i l =
    ((k : ℕ) → k < l.i → get_or l.self.coefficients k (pos 0) ≡ get_or l.initial.self.coefficients k (pos 0) +ℤ pos l.multiplier *ℤ get_or l.row.coefficients.items k (pos 0))
    × ((k : ℕ) → l.i ≤ k → get_or l.self.coefficients k (pos 0) ≡ get_or l.initial.self.coefficients k (pos 0))
    × (l.self.right ≡ l.initial.self.right)
