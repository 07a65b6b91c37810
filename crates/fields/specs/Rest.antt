-- What a reader hands out: a value, and the part of the file after it.
use Rattle.std.specs.Prelude.{ℕ, List, Ok, Err, Result}
use Rattle.std.specs.Borrow.{Bor}
use Rattle.terms.specs.declared.fault.Fault.{Fault}

abbrev pub with_rest : {X : Type 0} → Result (X × Bor (List ℕ)) Fault → Result (X × List ℕ) Fault
with_rest (Ok p) = Ok (p.0, p.1.now)
with_rest (Err f) = Err f

-- one reading after another; the first fault is answered
abbrev pub and_then : {X Y : Type 0} → Result X Fault → (X → Result Y Fault) → Result Y Fault
and_then (Ok x) next = next x
and_then (Err f) next = Err f
