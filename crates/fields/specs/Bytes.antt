-- Numbers at the front of a file, two's complement where signed, and what follows them.
use Rattle.std.specs.Prelude.{ℕ, cond, List, length, drop, ℤ, Ok, Err, Result, nat_lt, slice_index}
use Rattle.std.specs.Int.{w32, w64}
use Rattle.std.proofs.Common.{to_z}
use Rattle.terms.specs.declared.fault.Cause.TheVariants.{FileEnds, LetterOutOfPhase}
use Rattle.terms.specs.declared.fault.Fault.{Fault}
use Rattle.terms.specs.Bytes.{nat16, nat32, nat64}
use Rattle.terms.specs.Faults.{fault}

-- the file ends in a record or before its end
abbrev pub ends : Fault
ends = fault FileEnds 0

-- the letter is unknown, or out of its phase
abbrev pub out_of_phase : Fault
out_of_phase = fault LetterOutOfPhase 0

-- a number of k bytes, and what follows it
abbrev pub number_read : {X : Type 0} → ℕ → (List ℕ → X) → List ℕ → Result (X × List ℕ) Fault
number_read k number bs = cond (nat_lt (length bs) k) (Err ends) (Ok (number bs, drop k bs))

abbrev pub byte_read : List ℕ → Result (ℕ × List ℕ) Fault
byte_read = number_read 1 (λ bs. slice_index bs 0)

abbrev pub nat16_read : List ℕ → Result (ℕ × List ℕ) Fault
nat16_read = number_read 2 nat16

abbrev pub nat32_read : List ℕ → Result (ℕ × List ℕ) Fault
nat32_read = number_read 4 nat32

abbrev pub int32_read : List ℕ → Result (ℤ × List ℕ) Fault
int32_read = number_read 4 (λ bs. to_z w32 (nat32 bs))

abbrev pub int64_read : List ℕ → Result (ℤ × List ℕ) Fault
int64_read = number_read 8 (λ bs. to_z w64 (nat64 bs))
