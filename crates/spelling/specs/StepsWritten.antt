-- Steps as bytes: a letter, and then numbers, little-endian, two's complement where signed.
use Rattle.std.specs.Prelude.{ℕ, ◌+◌, ◌*◌, ◌/◌, ◌%◌, Bool, true, cond, ◌&&◌, List, [], ◌∷◌, ◌++◌, length, drop as after, ℤ, pos, Some, None, Ok, Err, Option, Result, ◌==◌, nat_le, nat_lt}
use Rattle.std.specs.Int.{w32, w64}
use Rattle.std.proofs.Common.{of_z}
use Rattle.terms.specs.declared.fault.Cause.TheVariants.{BufferTooShort, WrongLength}
use Rattle.terms.specs.declared.fault.Fault.{Fault}
use Rattle.terms.specs.Faults.{first_fault, unless}
use Rattle.terms.specs.Integers.{eq_z}
use Rattle.law.specs.declared.premise.Premise.{Premise}
use Rattle.law.specs.Calls.{Call, Line}
use Rattle.law.specs.Calls.Call.{branch, cut, chain, infer, cutoff, take, drop, pin}

-- ---- numbers
abbrev pub bytes16 : ℕ → List ℕ
bytes16 x = (x % 256) ∷ (x / 256 % 256) ∷ []

abbrev pub bytes32 : ℕ → List ℕ
bytes32 x = (x % 256) ∷ (x / 256 % 256) ∷ (x / 65536 % 256) ∷ (x / 16777216 % 256) ∷ []

abbrev pub bytes64 : ℕ → List ℕ
bytes64 x = (x % 256) ∷ (x / 256 % 256) ∷ (x / 65536 % 256) ∷ (x / 16777216 % 256) ∷ (x / 4294967296 % 256) ∷ (x / 1099511627776 % 256) ∷ (x / 281474976710656 % 256) ∷ (x / 72057594037927936 % 256) ∷ []

-- ---- lists
-- the bytes of each, one after another
abbrev pub in_turn : {X : Type 0} → (X → List ℕ) → List X → List ℕ
in_turn bytes [] = []
in_turn bytes (x ∷ xs) = bytes x ++ in_turn bytes xs

abbrev pub places_bytes : List ℕ → List ℕ
places_bytes ps = in_turn bytes16 ps

abbrev pub premise_bytes : Premise → List ℕ
premise_bytes p = bytes16 p.place ++ bytes16 p.multiplier

abbrev pub premises_bytes : List Premise → List ℕ
premises_bytes ps = in_turn premise_bytes ps

abbrev pub line_bytes : Line → List ℕ
line_bytes l = length l.premises ∷ (premises_bytes l.premises ++ bytes32 l.divisor)

abbrev pub lines_bytes : List Line → List ℕ
lines_bytes ls = in_turn line_bytes ls

-- ---- numbers by a map: a bit for each number, the first lowest, and the numbers that are not 0
abbrev pub map_of : List ℤ → ℕ
map_of [] = 0
map_of (v ∷ vs) = cond (eq_z v (pos 0)) 0 1 + 2 * map_of vs

abbrev pub number_bytes : ℤ → List ℕ
number_bytes v = cond (eq_z v (pos 0)) [] (bytes32 (of_z w32 v))

abbrev pub numbers_bytes : List ℤ → List ℕ
numbers_bytes vs = in_turn number_bytes vs

abbrev pub mapped_bytes : List ℤ → List ℕ
mapped_bytes vs = bytes16 (map_of vs) ++ numbers_bytes vs

-- ---- steps; none is the end
abbrev pub spelling : Option Call → List ℕ
spelling (Some (branch r)) = 66 ∷ (mapped_bytes r.coefficients ++ bytes64 (of_z w64 r.right))
spelling (Some (cut l)) = 67 ∷ line_bytes l
spelling (Some (chain ls)) = 76 ∷ length ls ∷ lines_bytes ls
spelling (Some (infer clue places)) = 73 ∷ (clue ++ length places ∷ places_bytes places)
spelling (Some cutoff) = 75 ∷ []
spelling (Some (take values)) = 84 ∷ mapped_bytes values
spelling (Some (drop place)) = 68 ∷ bytes16 place
spelling (Some (pin places)) = 80 ∷ places_bytes places
spelling None = 69 ∷ []

-- a count is one byte
abbrev pub counted : {X : Type 0} → List X → Bool
counted xs = nat_le (length xs) 255

abbrev pub lines_counted : List Line → Bool
lines_counted [] = true
lines_counted (l ∷ ls) = counted l.premises && lines_counted ls

-- the lists have the lengths that records for n variables and clues of w bytes give them, and the place of a drop fits its field
abbrev pub suits : ℕ → ℕ → Option Call → Bool
suits n w (Some (branch r)) = length r.coefficients == n
suits n w (Some (cut l)) = counted l.premises
suits n w (Some (chain ls)) = counted ls && lines_counted ls
suits n w (Some (infer clue places)) = length clue == w && counted places
suits n w (Some cutoff) = true
suits n w (Some (take values)) = length values == n
suits n w (Some (drop place)) = nat_lt place 65536
suits n w (Some (pin places)) = length places == 2 * n
suits n w None = true

-- ---- the writer
-- bytes at the front of a buffer; what lies after them stays
abbrev pub overlaid : List ℕ → List ℕ → List ℕ
overlaid bytes out = bytes ++ after (length bytes) out

abbrev pub written_by : Option Fault → List ℕ → List ℕ → List ℕ × Result ℕ Fault
written_by None bytes out = (overlaid bytes out, Ok (length bytes))
written_by (Some f) bytes out = (out, Err f)

-- what becomes of a buffer, and the answer, where the lists suit and the buffer has room
abbrev pub written_if : Bool → List ℕ → List ℕ → List ℕ × Result ℕ Fault
written_if suitable bytes out = written_by (first_fault (unless suitable WrongLength 0 ∷ unless (nat_le (length bytes) (length out)) BufferTooShort 0 ∷ [])) bytes out

abbrev pub written : ℕ → ℕ → Option Call → List ℕ → List ℕ × Result ℕ Fault
written n w o out = written_if (nat_le n 16 && suits n w o) (spelling o) out
