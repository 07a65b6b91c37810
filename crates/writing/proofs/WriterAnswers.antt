-- What the writer answers, by its two checks.
use Rattle.std.proofs.Common.{◌≡◌, ℕ, ◌≤◌, Bool, true, false, ◌&&◌, T, eqb, leb, Ok, Err, Result, sym, refl, ap, ◌∙◌, subst, ap₂, eqb→eq, leb→le}
use Rattle.terms.specs.declared.fault.Cause.{Cause}
use Rattle.terms.specs.declared.fault.Cause.TheVariants.{WrongLength}
use Rattle.terms.specs.declared.fault.Fault.{Fault}
use Rattle.terms.specs.Faults.{answered, fault, otherwise, unless}
use Rattle.terms.proofs.Passed.{clash}

abbrev pub Passes : Bool → Cause → Type 0
Passes b cause = Ok tt ≡ answered (unless b cause 0)

abbrev pub Stops : Bool → Cause → Fault → Type 0
Stops b cause f = Err f ≡ answered (unless b cause 0)

pub passed_true : (b : Bool) (cause : Cause) → Passes b cause → b ≡ true
passed_true true cause e = refl
passed_true false cause e = clash (cc)

pub stopped_false : (b : Bool) (cause : Cause) (f : Fault) → Stops b cause f → (b ≡ false) × (f ≡ fault cause 0)
stopped_false true cause f e = clash (cc)
stopped_false false cause f e = (refl, ap in-error e)
  where
    in-error : Result (Unit {0}) Fault → Fault
    in-error (Ok done) = f
    in-error (Err g) = g

pub is_counted : (k : ℕ) → Passes (leb k 255) WrongLength → k ≤ 255
is_counted k e = leb→le k 255 (subst T (sym (passed_true (leb k 255) WrongLength e)) tt)

pub same_length : (k n : ℕ) → Passes (eqb k n) WrongLength → k ≡ n
same_length k n e = eqb→eq k n (subst T (sym (passed_true (eqb k n) WrongLength e)) tt)

pub passes_first : (a b : Bool) (cause : Cause) → Passes (a && b) cause → Passes a cause
passes_first true b cause e = refl
passes_first false b cause e = clash (cc)

pub passes_both : (a b : Bool) (cause : Cause) → Passes a cause → b ≡ true → Passes (a && b) cause
passes_both a b cause e f = sym (ap (λ (x : Bool). answered (unless x cause 0)) (ap₂ ◌&&◌ (passed_true a cause e) f))

pub stops_first : (a b : Bool) (cause : Cause) (f : Fault) → Stops a cause f → Stops (a && b) cause f
stops_first true b cause f e = clash (cc)
stops_first false b cause f e = e

pub stops_second : (a b : Bool) (cause : Cause) (f : Fault) → Stops b cause f → Stops (a && b) cause f
stops_second true b cause f e = e
stops_second false b cause f e = ap Err (stopped_false b cause f e).1

pub stops_too : (a b : Bool) (cause : Cause) (f : Fault) → Stops a cause f → b ≡ false → Stops b cause f
stops_too a b cause f e is = ap Err (stopped_false a cause f e).1 ∙ sym (ap (λ (x : Bool). answered (unless x cause 0)) is)

pub stopped_length : (b : Bool) (m : ℕ) (f : Fault) (r : Result ℕ Fault) → Stops b WrongLength f → r ≡ Err f → r ≡ otherwise (unless b WrongLength 0) m
stopped_length b m f r e is =
    let p = stopped_false b WrongLength f e in is ∙ ap Err p.1 ∙ sym (ap (λ (x : Bool). otherwise (unless x WrongLength 0) m) p.0)

-- a length where the lists suit
pub suitable_length : (b : Bool) (k m : ℕ) → Passes b WrongLength → k ≡ m → Ok k ≡ otherwise (unless b WrongLength 0) m
suitable_length b k m e is = ap Ok is ∙ ap (λ (x : Bool). otherwise (unless x WrongLength 0) m) (sym (passed_true b WrongLength e))

-- what a length that was had says
pub had_length : (b : Bool) (k m : ℕ) → Ok k ≡ otherwise (unless b WrongLength 0) m → Passes b WrongLength × (k ≡ m)
had_length true k m e = (refl, ap in-answer e)
  where
    in-answer : Result ℕ Fault → ℕ
    in-answer (Ok x) = x
    in-answer (Err f) = 0
had_length false k m e = clash (cc)

pub not_had : (b : Bool) (m : ℕ) (f : Fault) → Err f ≡ otherwise (unless b WrongLength 0) m → Stops b WrongLength f
not_had true m f e = clash (cc)
not_had false m f e = ap in-answer e
  where
    in-answer : Result ℕ Fault → Result (Unit {0}) Fault
    in-answer (Ok x) = Ok tt
    in-answer (Err g) = Err g
