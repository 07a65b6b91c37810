use Rattle.std.proofs.Common.{◌≡◌, ◌-◌, ◌/◌, ◌^◌, length, take}
use Rattle.fields.specs.Maps.{numbers_read, spread}
use Rattle.fields.proofs.Spreading.{all_in_front}
use Rattle.fields.proofs.maps.read_numbers.Given as goal

-- the numbers so far, and what the rest of the map spells in the rest of the bytes
abbrev pub invariant-loop-i : goal.invariant-loop-i
invariant-loop-i l = (all_in_front (take l.i l.items) (spread (16 - l.i) (l.map / 2 ^ l.i) l.rest) ≡ numbers_read l.map l.bytes) × (length l.items ≡ 16)
