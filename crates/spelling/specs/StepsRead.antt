-- The records of a trace file: a step, or the end.
use Rattle.std.specs.Prelude.{ℕ, zero, suc, ◌*◌, min, cond, List, length, take as firsts, drop, ℤ, Some, None, Ok, Err, Option, Result, ◌==◌, nat_lt}
use Rattle.terms.specs.declared.fault.Fault.{Fault}
use Rattle.terms.specs.Faults.{otherwise}
use Rattle.law.specs.Calls.{Call, Line}
use Rattle.law.specs.Calls.Call.{branch, cut, chain, infer, cutoff, take, drop as drop_at, pin}
use Rattle.law.specs.Spelt.{lines_from, places_in, premises_in}
use Rattle.fields.specs.Bodies.{body_read}
use Rattle.fields.specs.Bytes.{byte_read, ends, nat16_read, nat32_read, out_of_phase}
use Rattle.fields.specs.Rest.{and_then}
use Rattle.fields.specs.Maps.{map_fault, numbers_read}

-- ---- parts of a record
-- so many bytes, and what follows them
abbrev pub part_read : ℕ → List ℕ → Result (List ℕ × List ℕ) Fault
part_read k bytes = cond (nat_lt (length bytes) k) (Err ends) (Ok (firsts k bytes, drop k bytes))

-- a line: a count of premises, the premises, and a divisor
abbrev pub line_read : List ℕ → Result (Line × List ℕ) Fault
line_read bytes =
    and_then (byte_read bytes) (λ k.
    and_then (part_read (4 * k.0) k.1) (λ ps.
    and_then (nat32_read ps.1) (λ d.
    Ok (record { premises = premises_in ps.0; divisor = d.0 }, d.1))))

-- what follows k lines
abbrev pub after_lines : ℕ → List ℕ → Result (List ℕ) Fault
after_lines zero bytes = Ok bytes
after_lines (suc k) bytes = and_then (line_read bytes) (λ l. after_lines k l.1)

-- sixteen numbers, by a map for n variables
abbrev pub mapped_read : ℕ → List ℕ → Result (List ℤ × List ℕ) Fault
mapped_read n bytes =
    and_then (nat16_read bytes) (λ m.
    and_then (numbers_read m.0 m.1) (λ vs.
    otherwise (map_fault n m.0 vs.0) (vs.0, vs.1)))

-- ---- steps, for n variables and clues of w bytes
abbrev pub Reads : Type 0
Reads = Result (Option Call × List ℕ) Fault

abbrev pub branch_read : ℕ → List ℕ → Reads
branch_read n fields = and_then (body_read n fields) (λ b. Ok (Some (branch (record { coefficients = firsts n b.0.numbers; right = b.0.right })), b.1))

abbrev pub cut_read : List ℕ → Reads
cut_read fields = and_then (line_read fields) (λ l. Ok (Some (cut l.0), l.1))

abbrev pub chain_read : List ℕ → Reads
chain_read fields = and_then (byte_read fields) (λ k. and_then (after_lines k.0 k.1) (λ rest. Ok (Some (chain (lines_from k.0 k.1)), rest)))

abbrev pub infer_read : ℕ → List ℕ → Reads
infer_read w fields =
    and_then (part_read w fields) (λ clue.
    and_then (byte_read clue.1) (λ k.
    and_then (part_read (2 * k.0) k.1) (λ places.
    Ok (Some (infer clue.0 (places_in places.0)), places.1))))

abbrev pub take_read : ℕ → List ℕ → Reads
take_read n fields = and_then (mapped_read n fields) (λ vs. Ok (Some (take (firsts n vs.0)), vs.1))

abbrev pub drop_read : List ℕ → Reads
drop_read fields = and_then (nat16_read fields) (λ place. Ok (Some (drop_at place.0), place.1))

abbrev pub pin_read : ℕ → List ℕ → Reads
pin_read n fields = and_then (part_read (4 * n) fields) (λ places. Ok (Some (pin (places_in places.0)), places.1))

-- B (66), C (67), L (76), I (73), K (75), T (84), D (68), P (80), and E (69), the end
abbrev pub step_fields : ℕ → ℕ → ℕ → List ℕ → Reads
step_fields n w letter fields =
    cond (letter == 66) (branch_read n fields)
    (cond (letter == 67) (cut_read fields)
    (cond (letter == 76) (chain_read fields)
    (cond (letter == 73) (infer_read w fields)
    (cond (letter == 75) (Ok (Some cutoff, fields))
    (cond (letter == 84) (take_read n fields)
    (cond (letter == 68) (drop_read fields)
    (cond (letter == 80) (pin_read n fields)
    (cond (letter == 69) (Ok (None, fields)) (Err out_of_phase)))))))))

abbrev pub step_read : ℕ → ℕ → List ℕ → Reads
step_read n w bytes = and_then (byte_read bytes) (λ letter. step_fields (min n 16) w letter.0 letter.1)
