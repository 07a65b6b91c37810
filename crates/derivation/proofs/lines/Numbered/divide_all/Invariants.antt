use Rattle.std.proofs.Common.{◌≡◌, map, length, take, drop}
use Rattle.terms.specs.declared.fault.Cause.TheVariants.{RowTooLarge}
use Rattle.terms.specs.Faults.{first_unless}
use Rattle.terms.specs.Limits.{million, within}
use Rattle.terms.proofs.SmallLists.{Small}
use Rattle.derivation.specs.Sums.{quotients}
use Rattle.derivation.proofs.lines.Numbered.divide_all.Given as goal

-- what is left decides; the quotients so far are written
abbrev pub invariant-loop-i : goal.invariant-loop-i
invariant-loop-i l = let qs = quotients l.self.line.divisor l.sums in
    (first_unless RowTooLarge l.i (map (within million) (drop l.i qs)) ≡ first_unless RowTooLarge 0 (map (within million) qs))
    × (take l.i l.items ≡ take l.i qs)
    × Small l.items
    × (length l.items ≡ 16)
