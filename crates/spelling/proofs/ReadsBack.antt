-- A step that is written is read back as the same step.
use Rattle.std.proofs.Common.{◌≡◌, ℕ, ◌*◌, ◌<◌, ◌≤◌, min, eqb, List, [], ◌∷◌, ◌++◌, length, get_or, take as firsts, ℤ, Some, None, Ok, sym, refl, ap, ◌∙◌, arith, w64, SFits, to_z, of_z}
use mir.ValLaws.{of_z_fits}
use Rattle.std.proofs.lemmas.List.{append_assoc}
use Rattle.std.proofs.lemmas.Int.{to_z-of_z}
use Rattle.std.proofs.lemmas.Bool.{and_parts, eqb-true, ltb-true}
use Rattle.terms.specs.Bytes.{nat16, nat64}
use Rattle.terms.specs.Faults.{otherwise}
use Rattle.terms.specs.Rows.{Row}
use Rattle.law.specs.Calls.{Line}
use Rattle.law.specs.Calls.Call.{branch, cut, chain, infer, cutoff, take, drop, pin}
use Rattle.fields.specs.Bodies.{body_read}
use Rattle.fields.specs.declared.body.Body.{Body}
use Rattle.fields.specs.Bytes.{byte_read, int64_read, nat16_read}
use Rattle.fields.specs.Maps.{map_fault, numbers_read}
use Rattle.spelling.specs.OneSpelling.{AllNumbers, AllPlaces, FitsFields, WritingReadsBack}
use Rattle.spelling.specs.StepsRead.{after_lines, branch_read, chain_read, drop_read, infer_read, line_read, mapped_read, part_read, pin_read, step_fields, step_read, take_read}
use Rattle.spelling.specs.StepsWritten.{bytes16, bytes64, counted, line_bytes, lines_bytes, map_of, mapped_bytes, numbers_bytes, places_bytes}
use Rattle.spelling.proofs.ListsSpelt.{line_read_lem, lines_read, places_bytes_long, places_read}
use Rattle.spelling.proofs.MapsSpelt.{map_passed, map_small, numbers_read_lem, padded, padded_front}
use Rattle.spelling.proofs.NumbersSpelt.{number16, number64}
use Rattle.spelling.proofs.PartsRead.{number_read_lem, part_read_lem, then_ok}

byte_read_lem : (b : ℕ) (rest : List ℕ) → byte_read (b ∷ rest) ≡ Ok (b, rest)
byte_read_lem b rest = number_read_lem 1 (b ∷ []) rest refl (λ bs. get_or bs 0 0) b refl

-- ---- numbers by a map
module _ (n : ℕ) (vs : List ℤ) (rest : List ℕ) (l : n ≤ 16) (s : length vs ≡ n) (f : AllNumbers vs) where
  map_read : nat16_read (mapped_bytes vs ++ rest) ≡ Ok (map_of vs, numbers_bytes vs ++ rest)
  map_read = number_read_lem 2 (bytes16 (map_of vs)) (numbers_bytes vs ++ rest) refl nat16 (map_of vs) (number16 (map_of vs) (numbers_bytes vs ++ rest) (map_small 16 vs (omega arith)))

  numbers_there : numbers_read (map_of vs) (numbers_bytes vs ++ rest) ≡ Ok (padded 16 vs, rest)
  numbers_there = numbers_read_lem vs rest (omega arith) f

  accepted : {X : Type 0} (x : X) → otherwise (map_fault n (map_of vs) (padded 16 vs)) x ≡ Ok x
  accepted x = ap (λ o. otherwise o x) (map_passed n vs (omega arith))

  front : firsts n (padded 16 vs) ≡ vs
  front = ap (λ k. firsts k (padded 16 vs)) (sym s) ∙ padded_front 16 vs (omega arith)

  take_read_lem : take_read n (mapped_bytes vs ++ rest) ≡ Ok (Some (take vs), rest)
  take_read_lem =
      then_ok (mapped_read n (mapped_bytes vs ++ rest)) (padded 16 vs, rest) _ (
      then_ok (nat16_read (mapped_bytes vs ++ rest)) (map_of vs, numbers_bytes vs ++ rest) _ map_read
      ∙ then_ok (numbers_read (map_of vs) (numbers_bytes vs ++ rest)) (padded 16 vs, rest) _ numbers_there
      ∙ accepted (padded 16 vs, rest))
      ∙ ap (λ us. Ok (Some (take us), rest)) front

branch_read_lem : (n : ℕ) (r : Row) (rest : List ℕ) → n ≤ 16 → length r.coefficients ≡ n → AllNumbers r.coefficients → SFits w64 r.right → branch_read n ((mapped_bytes r.coefficients ++ bytes64 (of_z w64 r.right)) ++ rest) ≡ Ok (Some (branch r), rest)
branch_read_lem n r rest l s f g =
    let vs = r.coefficients in
    let right = bytes64 (of_z w64 r.right) in
    let body : Body = record { numbers = padded 16 vs; right = r.right } in
    then_ok (body_read n ((mapped_bytes vs ++ right) ++ rest)) (body, rest) _ (
    ap (body_read n) (append_assoc (mapped_bytes vs) right rest)
    ∙ then_ok (nat16_read (mapped_bytes vs ++ (right ++ rest))) (map_of vs, numbers_bytes vs ++ (right ++ rest)) _ (map_read n vs (right ++ rest) l s f)
    ∙ then_ok (numbers_read (map_of vs) (numbers_bytes vs ++ (right ++ rest))) (padded 16 vs, right ++ rest) _ (numbers_there n vs (right ++ rest) l s f)
    ∙ then_ok (int64_read (right ++ rest)) (r.right, rest) _ (number_read_lem 8 right rest refl (λ bs. to_z w64 (nat64 bs)) r.right (ap (to_z w64) (number64 (of_z w64 r.right) rest (of_z_fits w64 r.right g).fits) ∙ to_z-of_z w64 r.right g))
    ∙ accepted n vs rest l s f (body, rest))
    ∙ ap (λ us. Ok (Some (branch (record { coefficients = us; right = r.right })), rest)) (front n vs rest l s f)

-- ---- lists
chain_read_lem : (ls : List Line) (rest : List ℕ) → FitsFields (Some (chain ls)) → chain_read (length ls ∷ (lines_bytes ls ++ rest)) ≡ Ok (Some (chain ls), rest)
chain_read_lem ls rest f =
    let k = length ls in
    let bs = lines_bytes ls ++ rest in
    let there = lines_read ls rest f in
    then_ok (byte_read (k ∷ bs)) (k, bs) _ (byte_read_lem k bs)
    ∙ then_ok (after_lines k bs) rest _ there.0
    ∙ ap (λ ms. Ok (Some (chain ms), rest)) there.1

pin_read_lem : (n : ℕ) (places rest : List ℕ) → length places ≡ 2 * n → AllPlaces places → pin_read n (places_bytes places ++ rest) ≡ Ok (Some (pin places), rest)
pin_read_lem n places rest s f =
    then_ok (part_read (4 * n) (places_bytes places ++ rest)) (places_bytes places, rest) _ (part_read_lem (4 * n) (places_bytes places) rest (omega (arith, places_bytes_long places)))
    ∙ ap (λ ps. Ok (Some (pin ps), rest)) (places_read places f)

infer_read_lem : (w : ℕ) (clue places rest : List ℕ) → length clue ≡ w → AllPlaces places → infer_read w ((clue ++ length places ∷ places_bytes places) ++ rest) ≡ Ok (Some (infer clue places), rest)
infer_read_lem w clue places rest s f =
    let k = length places in
    let bs = places_bytes places ++ rest in
    ap (infer_read w) (append_assoc clue (k ∷ places_bytes places) rest)
    ∙ then_ok (part_read w (clue ++ k ∷ bs)) (clue, k ∷ bs) _ (part_read_lem w clue (k ∷ bs) s)
    ∙ then_ok (byte_read (k ∷ bs)) (k, bs) _ (byte_read_lem k bs)
    ∙ then_ok (part_read (2 * k) bs) (places_bytes places, rest) _ (part_read_lem (2 * k) (places_bytes places) rest (places_bytes_long places))
    ∙ ap (λ ps. Ok (Some (infer clue ps), rest)) (places_read places f)

-- ---- steps
drop_read_lem : (place : ℕ) (rest : List ℕ) → place < 65536 → drop_read (bytes16 place ++ rest) ≡ Ok (Some (drop place), rest)
drop_read_lem place rest f = then_ok (nat16_read (bytes16 place ++ rest)) (place, rest) _ (number_read_lem 2 (bytes16 place) rest refl nat16 place (number16 place rest f))

letter_read : (n w letter : ℕ) (fields : List ℕ) → n ≤ 16 → step_read n w (letter ∷ fields) ≡ step_fields n w letter fields
letter_read n w letter fields l =
    let same : min n 16 ≡ n = omega arith in
    then_ok (byte_read (letter ∷ fields)) (letter, fields) _ (byte_read_lem letter fields) ∙ ap (λ m. step_fields m w letter fields) same

pub reads_back : WritingReadsBack
reads_back n w (Some (branch r)) l s f rest = letter_read n w 66 ((mapped_bytes r.coefficients ++ bytes64 (of_z w64 r.right)) ++ rest) l ∙ branch_read_lem n r rest l (eqb-true (length r.coefficients) n s) f.0 f.1
reads_back n w (Some (cut m)) l s f rest = letter_read n w 67 (line_bytes m ++ rest) l ∙ then_ok (line_read (line_bytes m ++ rest)) (m, rest) (λ p. Ok (Some (cut p.0), p.1)) (line_read_lem m rest f)
reads_back n w (Some (chain ls)) l s f rest = letter_read n w 76 (length ls ∷ (lines_bytes ls ++ rest)) l ∙ chain_read_lem ls rest f
reads_back n w (Some (infer clue places)) l s f rest = letter_read n w 73 ((clue ++ length places ∷ places_bytes places) ++ rest) l ∙ infer_read_lem w clue places rest (eqb-true (length clue) w (and_parts (eqb (length clue) w) (counted places) s).0) f
reads_back n w (Some cutoff) l s f rest = letter_read n w 75 rest l
reads_back n w (Some (take values)) l s f rest = letter_read n w 84 (mapped_bytes values ++ rest) l ∙ take_read_lem n values rest l (eqb-true (length values) n s) f
reads_back n w (Some (drop place)) l s f rest = letter_read n w 68 (bytes16 place ++ rest) l ∙ drop_read_lem place rest (ltb-true place 65536 s)
reads_back n w (Some (pin places)) l s f rest = letter_read n w 80 (places_bytes places ++ rest) l ∙ pin_read_lem n places rest (eqb-true (length places) (2 * n) s) f
reads_back n w None l s f rest = letter_read n w 69 rest l
