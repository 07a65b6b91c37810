-- The lists of a step, read from its bytes; a byte that is missing counts as 0.
use Rattle.std.specs.Prelude.{ℕ, zero, suc, ◌+◌, ◌*◌, ◌/◌, List, [], ◌∷◌, map, length, take, drop, slice_index, slice_index_or}
use Rattle.std.specs.Simd.{first_chunks}
use Rattle.terms.specs.Bytes.{nat16, nat32}
use Rattle.law.specs.declared.premise.Line.{Line as LineBytes}
use Rattle.law.specs.declared.premise.Lines.{Lines}
use Rattle.law.specs.declared.premise.Packed.{Packed}
use Rattle.law.specs.declared.premise.Premise.{Premise}
use Rattle.law.specs.Calls.{Line}

-- the whole items of n bytes each at the front
abbrev pub packed : ℕ → List ℕ → List (List ℕ)
packed n bs = first_chunks n (length bs / n) bs

-- places, two bytes each
abbrev pub places_in : List ℕ → List ℕ
places_in bs = map nat16 (packed 2 bs)

-- a place and a multiplier
abbrev pub premise_in : List ℕ → Premise
premise_in bs = record { place = nat16 bs; multiplier = nat16 (drop 2 bs) }

-- premises, four bytes each
abbrev pub premises_in : List ℕ → List Premise
premises_in bs = map premise_in (packed 4 bs)

-- a line: a count of premises, the premises, and a divisor of four bytes
abbrev pub line_in : List ℕ → Line
line_in bs = let k = 4 * slice_index_or bs 0 0 in record { premises = premises_in (take k (drop 1 bs)); divisor = nat32 (drop (1 + k) bs) }

-- k lines, one after another
abbrev pub lines_from : ℕ → List ℕ → List Line
lines_from zero bs = []
lines_from (suc k) bs = line_in bs ∷ lines_from k (drop (5 + 4 * slice_index bs 0) bs)

-- ---- what the parts stand for
abbrev pub places_of : Packed 2 → List ℕ
places_of p = map nat16 p.items.now

abbrev pub premises_of : Packed 4 → List Premise
premises_of p = map premise_in p.items.now

abbrev pub line_of : LineBytes → Line
line_of l = record { premises = premises_of l.premises; divisor = l.divisor }

abbrev pub lines_of : Lines → List Line
lines_of l = lines_from l.count l.bytes.now
