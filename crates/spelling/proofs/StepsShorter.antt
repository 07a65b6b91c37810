-- What a step leaves of its bytes is shorter.
use Rattle.std.proofs.Common.{ℕ, zero, suc, ◌*◌, ◌≤◌, Bool, true, false, cond, eqb, ltb, List, length, get_or, take as firsts, drop, ℤ, Some, None, Ok, Err, Option, Result, arith, length-drop}
use Rattle.terms.specs.declared.fault.Fault.{Fault}
use Rattle.terms.specs.Bytes.{nat16, nat32}
use Rattle.terms.specs.Faults.{otherwise}
use Rattle.law.specs.Calls.{Call, Line}
use Rattle.law.specs.Calls.Call.{branch, cut, chain, infer, take, drop as drop_at, pin}
use Rattle.law.specs.Spelt.{lines_from, places_in, premises_in}
use Rattle.fields.specs.Bodies.{body_read}
use Rattle.fields.specs.Bytes.{byte_read, ends, nat16_read, nat32_read, out_of_phase}
use Rattle.fields.specs.Rest.{and_then}
use Rattle.fields.specs.Maps.{map_fault, numbers_read}
use Rattle.spelling.specs.StepsRead.{Reads, after_lines, chain_read, infer_read, line_read, mapped_read, part_read, step_fields}
use Rattle.fields.proofs.Shorter.{Leaves, leaves_body, leaves_number, leaves_numbers, leaves_otherwise, leaves_then}

leaves_byte : (k : ℕ) (bs : List ℕ) → length bs ≤ k → Leaves k (byte_read bs)
leaves_byte k bs h = leaves_number k 1 (λ cs. get_or cs 0 0) bs (omega arith)

leaves_part : (k n : ℕ) (bs : List ℕ) → length bs ≤ k → Leaves k (part_read n bs)
leaves_part k n bs h = by (ltb (length bs) n)
  where
    by : (b : Bool) → Leaves k (cond b (Err ends) (Ok (firsts n bs, drop n bs)))
    by true = tt
    by false = omega (arith, length-drop n bs)

leaves_line : (k : ℕ) (bs : List ℕ) → length bs ≤ k → Leaves k (line_read bs)
leaves_line k bs h =
    leaves_then k (byte_read bs) (λ c. and_then (part_read (4 * c.0) c.1) (λ ps. and_then (nat32_read ps.1) (λ d. Ok (record { premises = premises_in ps.0; divisor = d.0 }, d.1)))) (leaves_byte k bs h) (λ c h₁.
    leaves_then k (part_read (4 * c.0) c.1) (λ ps. and_then (nat32_read ps.1) (λ d. Ok (record { premises = premises_in ps.0; divisor = d.0 }, d.1))) (leaves_part k (4 * c.0) c.1 h₁) (λ ps h₂.
    leaves_then {Y = Line} k (nat32_read ps.1) (λ d. Ok (record { premises = premises_in ps.0; divisor = d.0 }, d.1)) (leaves_number k 4 nat32 ps.1 (omega arith)) (λ d h₃. h₃)))

-- the same of a reading that makes nothing
abbrev LeavesRest : ℕ → Result (List ℕ) Fault → Type 0
LeavesRest k (Ok rest) = length rest ≤ k
LeavesRest k (Err f) = Unit {0}

rest_then : {X : Type 0} (k : ℕ) (r : Result (X × List ℕ) Fault) (next : X × List ℕ → Result (List ℕ) Fault) → Leaves k r → ((p : X × List ℕ) → length p.1 ≤ k → LeavesRest k (next p)) → LeavesRest k (and_then r next)
rest_then k (Ok p) next h g = g p h
rest_then k (Err f) next h g = tt

leaves_lines : (k n : ℕ) (bs : List ℕ) → length bs ≤ k → LeavesRest k (after_lines n bs)
leaves_lines k zero bs h = h
leaves_lines k (suc n) bs h = rest_then k (line_read bs) (λ l. after_lines n l.1) (leaves_line k bs h) (λ l g. leaves_lines k n l.1 g)

then-rest : {Y : Type 0} (k : ℕ) (r : Result (List ℕ) Fault) (y : Y) → LeavesRest k r → Leaves k (and_then r (λ rest. Ok (y, rest)))
then-rest k (Ok rest) y h = h
then-rest k (Err f) y h = tt

leaves_mapped : (k n : ℕ) (bs : List ℕ) → length bs ≤ k → Leaves k (mapped_read n bs)
leaves_mapped k n bs h =
    leaves_then k (nat16_read bs) (λ m. and_then (numbers_read m.0 m.1) (λ vs. otherwise (map_fault n m.0 vs.0) (vs.0, vs.1))) (leaves_number k 2 nat16 bs (omega arith)) (λ m h₁.
    leaves_then {Y = List ℤ} k (numbers_read m.0 m.1) (λ vs. otherwise (map_fault n m.0 vs.0) (vs.0, vs.1)) (leaves_numbers k m.0 m.1 h₁) (λ vs h₂.
    leaves_otherwise k (map_fault n m.0 vs.0) (vs.0, vs.1) h₂))

-- ---- steps
leaves_chain : (k : ℕ) (bs : List ℕ) → length bs ≤ k → Leaves k (chain_read bs)
leaves_chain k bs h =
    leaves_then {Y = Option Call} k (byte_read bs) (λ c. and_then (after_lines c.0 c.1) (λ rest. Ok (Some (chain (lines_from c.0 c.1)), rest))) (leaves_byte k bs h)
    (λ c g. then-rest k (after_lines c.0 c.1) (Some (chain (lines_from c.0 c.1))) (leaves_lines k c.0 c.1 g))

leaves_infer : (k w : ℕ) (bs : List ℕ) → length bs ≤ k → Leaves k (infer_read w bs)
leaves_infer k w bs h =
    leaves_then k (part_read w bs) (λ clue. and_then (byte_read clue.1) (λ c. and_then (part_read (2 * c.0) c.1) (λ ps. Ok (Some (infer clue.0 (places_in ps.0)), ps.1)))) (leaves_part k w bs h) (λ clue h₁.
    leaves_then k (byte_read clue.1) (λ c. and_then (part_read (2 * c.0) c.1) (λ ps. Ok (Some (infer clue.0 (places_in ps.0)), ps.1))) (leaves_byte k clue.1 h₁) (λ c h₂.
    leaves_then {Y = Option Call} k (part_read (2 * c.0) c.1) (λ ps. Ok (Some (infer clue.0 (places_in ps.0)), ps.1)) (leaves_part k (2 * c.0) c.1 h₂) (λ ps h₃. h₃)))

leaves_either : (k : ℕ) (b : Bool) (x y : Reads) → Leaves k x → Leaves k y → Leaves k (cond b x y)
leaves_either k true x y h g = h
leaves_either k false x y h g = g

pub leaves_fields : (k n w letter : ℕ) (bs : List ℕ) → length bs ≤ k → Leaves k (step_fields n w letter bs)
leaves_fields k n w letter bs h =
    leaves_either k (eqb letter 66) _ _ (leaves_then {Y = Option Call} k (body_read n bs) (λ b. Ok (Some (branch (record { coefficients = firsts n b.0.numbers; right = b.0.right })), b.1)) (leaves_body k n bs h) (λ b g. g))
    (leaves_either k (eqb letter 67) _ _ (leaves_then {Y = Option Call} k (line_read bs) (λ l. Ok (Some (cut l.0), l.1)) (leaves_line k bs h) (λ l g. g))
    (leaves_either k (eqb letter 76) _ _ (leaves_chain k bs h)
    (leaves_either k (eqb letter 73) _ _ (leaves_infer k w bs h)
    (leaves_either k (eqb letter 75) _ _ h
    (leaves_either k (eqb letter 84) _ _ (leaves_then {Y = Option Call} k (mapped_read n bs) (λ vs. Ok (Some (take (firsts n vs.0)), vs.1)) (leaves_mapped k n bs h) (λ vs g. g))
    (leaves_either k (eqb letter 68) _ _ (leaves_then {Y = Option Call} k (nat16_read bs) (λ place. Ok (Some (drop_at place.0), place.1)) (leaves_number k 2 nat16 bs (omega arith)) (λ place g. g))
    (leaves_either k (eqb letter 80) _ _ (leaves_then {Y = Option Call} k (part_read (4 * n) bs) (λ ps. Ok (Some (pin (places_in ps.0)), ps.1)) (leaves_part k (4 * n) bs h) (λ ps g. g))
    (leaves_either k (eqb letter 69) (Ok (None, bs)) (Err out_of_phase) h tt))))))))
