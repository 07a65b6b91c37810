-- What a reading answers: of bytes that begin with what it reads, and of any bytes.
use Rattle.std.proofs.Common.{◌≡◌, ℕ, zero, suc, ◌+◌, ◌<◌, ◌≤◌, Bool, true, false, cond, ltb, List, IfOk, [], ◌∷◌, ◌++◌, length, take, drop, Some, None, Ok, Err, Option, Result, sym, refl, ap, ◌∙◌, subst, ap₂, arith, length-append}
use Rattle.std.proofs.lemmas.List.{drop_at, get_or-drop, take_at}
use Rattle.std.proofs.lemmas.Bool.{cond-false, le-ltb, ltb-false}
use Rattle.terms.specs.declared.fault.Fault.{Fault}
use Rattle.terms.specs.Faults.{otherwise}
use Rattle.fields.specs.Bytes.{ends, number_read}
use Rattle.spelling.specs.OneSpelling.{AreBytes}
use Rattle.fields.specs.Rest.{and_then}
use Rattle.spelling.specs.StepsRead.{part_read}

-- ---- bytes that begin with what is read
pub then_ok : {X Y : Type 0} (r : Result X Fault) (x : X) (next : X → Result Y Fault) → r ≡ Ok x → and_then r next ≡ next x
then_ok r x next e = ap (λ s. and_then s next) e

module _ (k : ℕ) (front rest : List ℕ) (l : length front ≡ k) where
  long : ltb (length (front ++ rest)) k ≡ false
  long = le-ltb (length (front ++ rest)) k (omega (arith, length-append front rest))

  pub number_read_lem : {X : Type 0} (number : List ℕ → X) (x : X) → number (front ++ rest) ≡ x → number_read k number (front ++ rest) ≡ Ok (x, rest)
  number_read_lem number x e = cond-false _ _ _ long ∙ ap₂ (λ y ys. Ok (y, ys)) e (drop_at front rest k l)

  pub part_read_lem : part_read k (front ++ rest) ≡ Ok (front, rest)
  part_read_lem = cond-false _ _ _ long ∙ ap₂ (λ xs ys. Ok (xs, ys)) (take_at front rest k l) (drop_at front rest k l)

-- ---- what holds of the value where there is one
abbrev pub Holds : {X : Type 0} → (X → Type 0) → Result X Fault → Type 0
Holds P r = IfOk r P

pub holds_then : {X Y : Type 0} (P : X → Type 0) (Q : Y → Type 0) (r : Result X Fault) (next : X → Result Y Fault) → Holds P r → ((x : X) → P x → Holds Q (next x)) → Holds Q (and_then r next)
holds_then P Q (Ok x) next h g = g x h
holds_then P Q (Err f) next h g = tt

pub holds_otherwise : {X : Type 0} (P : X → Type 0) (o : Option Fault) (x : X) → (o ≡ None → P x) → Holds P (otherwise o x)
holds_otherwise P None x h = h refl
holds_otherwise P (Some f) x h = tt

pub holds_either : {X : Type 0} (P : X → Type 0) (b : Bool) (r s : Result X Fault) → (b ≡ true → Holds P r) → (b ≡ false → Holds P s) → Holds P (cond b r s)
holds_either P true r s h g = h refl
holds_either P false r s h g = g refl

pub holds_both : {X : Type 0} (P Q : X → Type 0) (r : Result X Fault) → Holds P r → Holds Q r → Holds (λ x. P x × Q x) r
holds_both P Q (Ok x) h g = (h, g)
holds_both P Q (Err f) h g = tt

-- a number or a part of k bytes
module _ {X : Type 0} (k : ℕ) (bs : List ℕ) (x : X) where
  abbrev here : Result X Fault
  here = cond (ltb (length bs) k) (Err ends) (Ok x)

  pub holds_here : (P : X → Type 0) → (k ≤ length bs → P x) → Holds P here
  holds_here P h = holds_either P (ltb (length bs) k) (Err ends) (Ok x) (λ e. tt) (λ e. h (ltb-false (length bs) k e))

  pub holds_after : {Y : Type 0} (Q : Y → Type 0) (next : X → Result Y Fault) → (k ≤ length bs → Holds Q (next x)) → Holds Q (and_then here next)
  holds_after Q next h = holds_then (λ y. Holds Q (next y)) Q here next (holds_here (λ y. Holds Q (next y)) h) (λ y g. g)

-- ---- parts of bytes are bytes
pub bytes_after : (k : ℕ) (bs : List ℕ) → AreBytes bs → AreBytes (drop k bs)
bytes_after k bs h i = subst (λ b. b < 256) (sym (get_or-drop k bs i 0)) (h (k + i))

pub bytes_before : (k : ℕ) (bs : List ℕ) → AreBytes bs → AreBytes (take k bs)
bytes_before zero bs h i = omega arith
bytes_before (suc k) [] h i = omega arith
bytes_before (suc k) (b ∷ bs) h zero = h 0
bytes_before (suc k) (b ∷ bs) h (suc i) = bytes_before k bs (λ j. h (suc j)) i
