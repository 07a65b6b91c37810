-- Reading undoes writing, and each step has one spelling.
use Rattle.std.specs.Prelude.{◌≡◌, ℕ, ◌<◌, ◌≤◌, true, List, ◌++◌, ℤ, Some, None, Ok, Option, FitsSigned, slice_index}
use Rattle.std.specs.Int.{w32, w64}
use Rattle.std.specs.List.{AllByRecursion}
use Rattle.law.specs.declared.premise.Premise.{Premise}
use Rattle.law.specs.Calls.{Call, Line}
use Rattle.law.specs.Calls.Call.{branch, cut, chain, infer, cutoff, take, drop, pin}
use Rattle.spelling.specs.StepsRead.{step_read}
use Rattle.spelling.specs.StepsWritten.{spelling, suits}

-- ---- numbers that fit their fields, as those of every step in memory do
abbrev pub AllPlaces : List ℕ → Type 0
AllPlaces ps = AllByRecursion (λ p. p < 65536) ps

abbrev pub PremiseFits : Premise → Type 0
PremiseFits p = (p.place < 65536) × (p.multiplier < 65536)

abbrev pub AllPremises : List Premise → Type 0
AllPremises ps = AllByRecursion PremiseFits ps

abbrev pub LineFits : Line → Type 0
LineFits l = AllPremises l.premises × (l.divisor < 4294967296)

abbrev pub AllLines : List Line → Type 0
AllLines ls = AllByRecursion LineFits ls

abbrev pub AllNumbers : List ℤ → Type 0
AllNumbers vs = AllByRecursion (λ v. FitsSigned w32 v) vs

abbrev pub FitsFields : Option Call → Type 0
FitsFields (Some (branch r)) = AllNumbers r.coefficients × FitsSigned w64 r.right
FitsFields (Some (cut l)) = LineFits l
FitsFields (Some (chain ls)) = AllLines ls
FitsFields (Some (infer clue places)) = AllPlaces places
FitsFields (Some cutoff) = Unit {0}
FitsFields (Some (take values)) = AllNumbers values
FitsFields (Some (drop place)) = Unit {0}
FitsFields (Some (pin places)) = AllPlaces places
FitsFields None = Unit {0}

-- what every list of bytes is
abbrev pub AreBytes : List ℕ → Type 0
AreBytes bs = (k : ℕ) → slice_index bs k < 256

-- ---- for n variables and clues of w bytes
-- bytes, and then any others, are read as a step, and the others are left
abbrev pub ReadsBack : ℕ → ℕ → Option Call → List ℕ → Type 0
ReadsBack n w o bytes = FitsFields o → (rest : List ℕ) → step_read n w (bytes ++ rest) ≡ Ok (o, rest)

-- so are those that are written of it
abbrev pub WritingReadsBack : Type 0
WritingReadsBack = (n w : ℕ) (o : Option Call) → n ≤ 16 → suits n w o ≡ true → ReadsBack n w o (spelling o)

-- bytes are those that are written of a step, and then a rest; and the writer takes that step
abbrev pub Spelt : ℕ → ℕ → Option Call → List ℕ → List ℕ → Type 0
Spelt n w o bytes rest = (bytes ≡ spelling o ++ rest) × (suits n w o ≡ true)

-- so it is where they are read as that step
abbrev pub OneSpelling : Type 0
OneSpelling = (n w : ℕ) (bytes : List ℕ) (o : Option Call) (rest : List ℕ) → n ≤ 16 → AreBytes bytes → step_read n w bytes ≡ Ok (o, rest) → Spelt n w o bytes rest
