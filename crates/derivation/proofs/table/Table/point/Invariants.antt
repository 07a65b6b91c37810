use Rattle.std.proofs.Common.{◌≡◌, map, length, take, drop, is_some}
use Rattle.terms.specs.declared.fault.Cause.TheVariants.{NotFixed}
use Rattle.terms.specs.Faults.{first_unless}
use Rattle.terms.proofs.SmallLists.{Small}
use Rattle.law.specs.Bounds.{held_from, value_of}
use Rattle.law.specs.Spelt.{places_of}
use Rattle.derivation.specs.Pinned.{fixed_check}
use Rattle.derivation.specs.TableView.{held_of}
use Rattle.derivation.proofs.table.Table.point.Given as goal

-- what is left decides, and the values so far are small and are the point's
abbrev pub invariant-loop-i : goal.invariant-loop-i
invariant-loop-i l = let held = held_from l.self.size 0 (held_of l.self).rows (places_of l.places) in
    (first_unless NotFixed l.i (map is_some (drop l.i held)) ≡ fixed_check l.self.size (held_of l.self).rows (places_of l.places))
    × (take l.i l.items ≡ map value_of (take l.i held))
    × Small l.items
    × (length l.items ≡ 16)
