-- The body of a row: a map, a coefficient for each bit that is set, and a right side.
use Rattle.std.specs.Prelude.{ℕ, List, Result}
use Rattle.terms.specs.declared.fault.Fault.{Fault}
use Rattle.terms.specs.Faults.{otherwise}
use Rattle.fields.specs.declared.body.Body.{Body}
use Rattle.fields.specs.Bytes.{int64_read, nat16_read}
use Rattle.fields.specs.Rest.{and_then}
use Rattle.fields.specs.Maps.{map_fault, numbers_read}

-- the sixteen coefficients and the right side of a body, for n variables, and the bytes after it
abbrev pub body_read : ℕ → List ℕ → Result (Body × List ℕ) Fault
body_read n bytes =
    and_then (nat16_read bytes) (λ m.
    and_then (numbers_read m.0 m.1) (λ vs.
    and_then (int64_read vs.1) (λ r.
    otherwise (map_fault n m.0 vs.0) (record { numbers = vs.0; right = r.0 }, r.1))))
