-- Numbers that a map spells: sixteen bits, and a number for each bit that is set, from the lowest.
use Rattle.std.specs.Prelude.{ℕ, zero, suc, ◌+◌, ◌/◌, ◌%◌, Bool, cond, not, ◌&&◌, ◌||◌, List, [], ◌∷◌, ℤ, pos, Ok, Err, Option, Result, ◌==◌, nat_lt}
use Rattle.terms.specs.declared.fault.Cause.TheVariants.{BadMap}
use Rattle.terms.specs.declared.fault.Fault.{Fault}
use Rattle.terms.specs.Faults.{first_unless}
use Rattle.terms.specs.Integers.{eq_z}
use Rattle.fields.specs.declared.maps.Mapped.{Mapped}
use Rattle.fields.specs.Bytes.{int32_read, nat16_read}
use Rattle.fields.specs.Rest.{and_then}

-- whether the lowest bit is set
abbrev pub odd : ℕ → Bool
odd m = m % 2 == 1

-- the number of one bit: 0, with no bytes, where it is not set
abbrev pub one_read : Bool → List ℕ → Result (ℤ × List ℕ) Fault
one_read set bs = cond set (int32_read bs) (Ok (pos 0, bs))

abbrev pub in_front : ℤ → Result (List ℤ × List ℕ) Fault → Result (List ℤ × List ℕ) Fault
in_front z (Ok p) = Ok (z ∷ p.0, p.1)
in_front z (Err f) = Err f

abbrev pub number_then : (List ℕ → Result (List ℤ × List ℕ) Fault) → Result (ℤ × List ℕ) Fault → Result (List ℤ × List ℕ) Fault
number_then go (Ok p) = in_front p.0 (go p.1)
number_then go (Err f) = Err f

-- the numbers of the k lowest bits of a map, and the bytes after them
abbrev pub spread : ℕ → ℕ → List ℕ → Result (List ℤ × List ℕ) Fault
spread zero m bs = Ok ([], bs)
spread (suc k) m bs = number_then (spread k (m / 2)) (one_read (odd m) bs)

unfoldable pub numbers_read : ℕ → List ℕ → Result (List ℤ × List ℕ) Fault
numbers_read m bs = spread 16 m bs

-- a bit that is set is one of n variables, counted from i, and its number is not 0
abbrev pub map_tests : ℕ → ℕ → ℕ → List ℤ → List Bool
map_tests n i m [] = []
map_tests n i m (v ∷ vs) = (not (odd m) || (nat_lt i n && not (eq_z v (pos 0)))) ∷ map_tests n (i + 1) (m / 2) vs

abbrev pub map_fault : ℕ → ℕ → List ℤ → Option Fault
map_fault n m vs = first_unless BadMap 0 (map_tests n 0 m vs)

-- a map and the numbers of its bits, before its bits are tested
abbrev pub map_read : List ℕ → Result (Mapped × List ℕ) Fault
map_read bytes = and_then (nat16_read bytes) (λ m. and_then (numbers_read m.0 m.1) (λ vs. Ok (record { map = m.0; numbers = vs.0 }, vs.1)))
