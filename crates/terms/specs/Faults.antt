-- Causes and their numbers; checks, of which the first that applies is answered.
use Rattle.std.specs.Prelude.{ℕ, ◌+◌, Bool, true, false, List, [], ◌∷◌, Some, None, Ok, Err, Option, Result}
use Rattle.terms.specs.declared.fault.Cause.{Cause}
use Rattle.terms.specs.declared.fault.Cause.TheVariants.{NothingOpen, WrongLength, OutOfRange, Full, NoSuchPlace, NotDivisible, RowTooLarge, NoRule, UnknownRelation, PlaceNotVariable, PremiseNotShown, NoPlanTaken, RowMissed, NotAdmitted, NotCheaper, NotContradiction, NotFixed, PointStaysOpen, FileEnds, LetterOutOfPhase, BadMap, TrailingBytes, BufferTooShort, FileTooLong}
use Rattle.terms.specs.declared.fault.Fault.{Fault}

abbrev pub number : Cause → ℕ
number NothingOpen = 1
number WrongLength = 2
number OutOfRange = 3
number Full = 4
number NoSuchPlace = 5
number NotDivisible = 6
number RowTooLarge = 7
number NoRule = 8
number UnknownRelation = 9
number PlaceNotVariable = 10
number PremiseNotShown = 11
number NoPlanTaken = 12
number RowMissed = 13
number NotAdmitted = 14
number NotCheaper = 15
number NotContradiction = 16
number NotFixed = 17
number PointStaysOpen = 18
number FileEnds = 19
number LetterOutOfPhase = 20
number BadMap = 21
number TrailingBytes = 22
number BufferTooShort = 23
number FileTooLong = 24

abbrev pub fault : Cause → ℕ → Fault
fault cause spot = record { cause = cause; spot = spot; line = 0 }

-- the first fault of a list of checks
abbrev pub first_fault : List (Option Fault) → Option Fault
first_fault [] = None
first_fault (Some f ∷ cs) = Some f
first_fault (None ∷ cs) = first_fault cs

-- a fault at a spot, unless the test passes
abbrev pub unless : Bool → Cause → ℕ → Option Fault
unless true cause spot = None
unless false cause spot = Some (fault cause spot)

-- a fault at the first test that fails, the spots counted from `spot`
abbrev pub first_unless : Cause → ℕ → List Bool → Option Fault
first_unless cause spot [] = None
first_unless cause spot (true ∷ bs) = first_unless cause (spot + 1) bs
first_unless cause spot (false ∷ bs) = Some (fault cause spot)

-- the value, unless a check applies
abbrev pub otherwise : {X : Type 0} → Option Fault → X → Result X Fault
otherwise None x = Ok x
otherwise (Some f) x = Err f

abbrev pub answered : Option Fault → Result (Unit {0}) Fault
answered o = otherwise o tt

-- what an answer shows, by the meaning of its value
abbrev pub shown : {X Y : Type 0} → (X → Y) → Result X Fault → Result Y Fault
shown f (Ok x) = Ok (f x)
shown f (Err e) = Err e

-- what a call leaves and answers: the new value, or the old one and the fault
abbrev pub changed : {X : Type 0} → Option Fault → X → X → X × Result (Unit {0}) Fault
changed None before after = (after, Ok tt)
changed (Some f) before after = (before, Err f)
