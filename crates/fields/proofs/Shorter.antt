-- What a reading leaves of its bytes is shorter.
use Rattle.std.proofs.Common.{ℕ, zero, suc, ◌+◌, ◌/◌, ◌≤◌, Bool, true, false, cond, ltb, List, length, drop, ℤ, Some, None, Ok, Err, Option, Result, arith, length-drop, w32, w64, to_z}
use Rattle.terms.specs.declared.fault.Fault.{Fault}
use Rattle.terms.specs.Faults.{otherwise}
use Rattle.fields.specs.Bodies.{body_read}
use Rattle.terms.specs.Bytes.{nat16, nat32, nat64}
use Rattle.fields.specs.Bytes.{ends, int64_read, nat16_read, number_read}
use Rattle.fields.specs.Rest.{and_then}
use Rattle.fields.specs.Maps.{in_front, map_fault, number_then, numbers_read, odd, one_read, spread}

-- what is left is at most k bytes
abbrev pub Leaves : {X : Type 0} → ℕ → Result (X × List ℕ) Fault → Type 0
Leaves k (Ok p) = length p.1 ≤ k
Leaves k (Err f) = Unit {0}

pub leaves_then : {X Y : Type 0} (k : ℕ) (r : Result (X × List ℕ) Fault) (next : X × List ℕ → Result (Y × List ℕ) Fault) → Leaves k r → ((p : X × List ℕ) → length p.1 ≤ k → Leaves k (next p)) → Leaves k (and_then r next)
leaves_then k (Ok p) next h g = g p h
leaves_then k (Err f) next h g = tt

-- a step that reads nothing
pub leaves_after : {X Y : Type 0} (k : ℕ) (r : Result X Fault) (next : X → Result (Y × List ℕ) Fault) → ((x : X) → Leaves k (next x)) → Leaves k (and_then r next)
leaves_after k (Ok x) next g = g x
leaves_after k (Err f) next g = tt

pub leaves_otherwise : {X : Type 0} (k : ℕ) (o : Option Fault) (p : X × List ℕ) → length p.1 ≤ k → Leaves k (otherwise o p)
leaves_otherwise k None p h = h
leaves_otherwise k (Some f) p h = tt

pub leaves_number : {X : Type 0} (k n : ℕ) (number : List ℕ → X) (bs : List ℕ) → length bs ≤ k + n → Leaves k (number_read n number bs)
leaves_number k n number bs h = by (ltb (length bs) n)
  where
    by : (b : Bool) → Leaves k (cond b (Err ends) (Ok (number bs, drop n bs)))
    by true = tt
    by false = omega (arith, length-drop n bs)

leaves_front : (k : ℕ) (z : ℤ) (r : Result (List ℤ × List ℕ) Fault) → Leaves k r → Leaves k (in_front z r)
leaves_front k z (Ok p) h = h
leaves_front k z (Err f) h = tt

leaves_number_then : (k : ℕ) (go : List ℕ → Result (List ℤ × List ℕ) Fault) (r : Result (ℤ × List ℕ) Fault) → Leaves k r → ((bs : List ℕ) → length bs ≤ k → Leaves k (go bs)) → Leaves k (number_then go r)
leaves_number_then k go (Ok p) h g = leaves_front k p.0 (go p.1) (g p.1 h)
leaves_number_then k go (Err f) h g = tt

leaves_one : (k : ℕ) (set : Bool) (bs : List ℕ) → length bs ≤ k → Leaves k (one_read set bs)
leaves_one k true bs h = leaves_number k 4 (λ cs. to_z w32 (nat32 cs)) bs (omega arith)
leaves_one k false bs h = h

leaves_spread : (k i m : ℕ) (bs : List ℕ) → length bs ≤ k → Leaves k (spread i m bs)
leaves_spread k zero m bs h = h
leaves_spread k (suc i) m bs h = leaves_number_then k (spread i (m / 2)) (one_read (odd m) bs) (leaves_one k (odd m) bs h) (λ cs g. leaves_spread k i (m / 2) cs g)

pub leaves_numbers : (k m : ℕ) (bs : List ℕ) → length bs ≤ k → Leaves k (numbers_read m bs)
unfolding numbers_read
leaves_numbers k m bs h = leaves_spread k 16 m bs h

pub leaves_body : (k n : ℕ) (bs : List ℕ) → length bs ≤ k → Leaves k (body_read n bs)
leaves_body k n bs h =
    leaves_then k (nat16_read bs) _ (leaves_number k 2 nat16 bs (omega arith)) (λ m h₁.
    leaves_then k (numbers_read m.0 m.1) (λ vs. and_then (int64_read vs.1) (λ r. otherwise (map_fault n m.0 vs.0) (record { numbers = vs.0; right = r.0 }, r.1))) (leaves_numbers k m.0 m.1 h₁) (λ vs h₂.
    leaves_then k (int64_read vs.1) (λ r. otherwise (map_fault n m.0 vs.0) (record { numbers = vs.0; right = r.0 }, r.1)) (leaves_number k 8 (λ cs. to_z w64 (nat64 cs)) vs.1 (omega arith)) (λ r h₃.
    leaves_otherwise k (map_fault n m.0 vs.0) (record { numbers = vs.0; right = r.0 }, r.1) h₃)))
