-- What it says of a check that it passed, and of a list of checks.
use Rattle.std.proofs.Common.{◌≡◌, ℕ, Bool, true, false, List, [], ◌∷◌, ◌++◌, Some, None, Ok, Err, Option, Result, sym, refl, ap, subst, arith, MatchResult}
use Rattle.terms.specs.declared.fault.Cause.{Cause}
use Rattle.terms.specs.declared.fault.Fault.{Fault}
use Rattle.terms.specs.Faults.{first_fault, otherwise, unless}

pub clash : {X : Type 0} → ◌≡◌ {A = ℕ} 0 1 → X
clash e = absurd (omega arith)

-- an accepted answer: no check applied, and the value is the one defined
pub passed : {X : Type 0} (o : Option Fault) (x y : X) → Ok x ≡ otherwise o y → (o ≡ None) × (x ≡ y)
passed None x y e = (refl, cc)
passed (Some f) x y e = clash (cc)

-- a refused answer: its fault is the one of the checks
pub stopped : {X : Type 0} (o : Option Fault) (f : Fault) (y : X) → Err f ≡ otherwise o y → o ≡ Some f
stopped None f y e = clash (cc)
stopped (Some g) f y e = ap Some (sym same)
  where
    same : f ≡ g
    same = cc

pub unless_passed : (b : Bool) (cause : Cause) (spot : ℕ) → unless b cause spot ≡ None → b ≡ true
unless_passed true cause spot e = refl
unless_passed false cause spot e = clash (cc)

pub unless_stopped : (b : Bool) (cause : Cause) (spot : ℕ) (f : Fault) → unless b cause spot ≡ Some f → b ≡ false
unless_stopped true cause spot f e = clash (cc)
unless_stopped false cause spot f e = refl

-- one check after another
pub pass_one : (o : Option Fault) (cs : List (Option Fault)) → o ≡ None → first_fault (o ∷ cs) ≡ first_fault cs
pass_one o cs e = ap (λ p. first_fault (p ∷ cs)) e

pub stop_one : (o : Option Fault) (cs : List (Option Fault)) (f : Fault) → o ≡ Some f → first_fault (o ∷ cs) ≡ Some f
stop_one o cs f e = ap (λ p. first_fault (p ∷ cs)) e

-- a list of checks that comes after another
pub pass_list : (bs cs : List (Option Fault)) → first_fault bs ≡ None → first_fault (bs ++ cs) ≡ first_fault cs
pass_list [] cs e = refl
pass_list (None ∷ bs) cs e = pass_list bs cs e
pass_list (Some f ∷ bs) cs e = clash (cc)

pub stop_list : (bs cs : List (Option Fault)) (f : Fault) → first_fault bs ≡ Some f → first_fault (bs ++ cs) ≡ Some f
stop_list [] cs f e = clash (cc)
stop_list (None ∷ bs) cs f e = stop_list bs cs f e
stop_list (Some g ∷ bs) cs f e = e

-- where two lists of checks passed, the second did
pub rest_passed : (bs cs : List (Option Fault)) → first_fault (bs ++ cs) ≡ None → first_fault cs ≡ None
rest_passed [] cs e = e
rest_passed (None ∷ bs) cs e = rest_passed bs cs e
rest_passed (Some f ∷ bs) cs e = clash (cc)

-- where all passed, the first did, and the others
pub parts_passed : (o : Option Fault) (cs : List (Option Fault)) → first_fault (o ∷ cs) ≡ None → (o ≡ None) × (first_fault cs ≡ None)
parts_passed None cs e = (refl, e)
parts_passed (Some f) cs e = clash (cc)

pub refused_as : {X : Type 0} (o : Option Fault) (v : X) (f : Fault) → o ≡ Some f → Err f ≡ otherwise o v
refused_as o v f e = sym (ap (λ p. otherwise p v) e)

pub accepted_as : {X : Type 0} (o : Option Fault) (v : X) → o ≡ None → Ok v ≡ otherwise o v
accepted_as o v e = sym (ap (λ p. otherwise p v) e)

-- what holds of a fault holds of an answer that is this fault
pub refused_case : {T : Type 0} (r : Result T Fault) (P : T → Type 0) (Q : Fault → Type 0) (f : Fault) → r ≡ Err f → Q f → MatchResult r P Q
refused_case (Ok x) P Q f e q = clash (cc)
refused_case (Err g) P Q f e q = subst Q (sym same) q
  where
    same : g ≡ f
    same = cc
