-- Places, premises and lines, and their bytes, there and back.
use Rattle.std.proofs.Common.{◌≡◌, ℕ, zero, suc, ◌+◌, ◌*◌, ◌/◌, ◌<◌, ◌≤◌, true, ◌&&◌, List, [], ◌∷◌, ◌++◌, length, get_or, take, drop, Ok, sym, refl, ap, ◌∙◌, ap₂, arith, length-append, length-drop, map}
use Rattle.std.proofs.lemmas.List.{append_assoc, drop-drop, drop_all, drop_at, drop_more, length-map, length-take-le, take-append-drop, take_at}
use Rattle.std.proofs.Math.Nat.{mul-div_cancel_left, mul-suc, mul-zero}
use Rattle.std.specs.List.{AllByRecursion}
use Rattle.std.specs.Simd.{first_chunks}
use Rattle.std.proofs.lemmas.Bool.{and_from, le-leb}
use Rattle.std.proofs.lemmas.Result.{IfOk-at_ok, IfOk-weaker}
use Rattle.terms.specs.Bytes.{nat16, nat32}
use Rattle.law.specs.declared.premise.Premise.{Premise}
use Rattle.law.specs.Calls.{Line}
use Rattle.law.specs.Spelt.{line_in, lines_from, packed, places_in, premise_in, premises_in}
use Rattle.fields.specs.Bytes.{byte_read, nat32_read}
use Rattle.spelling.specs.OneSpelling.{AllLines, AllPlaces, AllPremises, AreBytes, LineFits, PremiseFits}
use Rattle.spelling.specs.StepsRead.{after_lines, line_read, part_read}
use Rattle.spelling.specs.StepsWritten.{bytes16, bytes32, counted, in_turn, line_bytes, lines_bytes, lines_counted, places_bytes, premise_bytes, premises_bytes}
use Rattle.spelling.proofs.NumbersSpelt.{back16, back32, number16, number32}
use Rattle.spelling.proofs.PartsRead.{Holds, bytes_after, bytes_before, holds_after, holds_both, holds_then, number_read_lem, part_read_lem, then_ok}

-- ---- items of n bytes each
chunks_long : {X : Type 0} (n k : ℕ) (xs : List X) → length (first_chunks n k xs) ≡ k
chunks_long n zero xs = refl
chunks_long n (suc k) xs = ap suc (chunks_long n k (drop n xs))

abbrev premise : ℕ → ℕ → Premise
premise p m = record { place = p; multiplier = m }

module _ {X : Type 0} (n : ℕ) (item : List ℕ → X) (bytes : X → List ℕ) (some : 0 < n) (long : (x : X) → length (bytes x) ≡ n) where
  in_turn_long : (xs : List X) → length (in_turn bytes xs) ≡ n * length xs
  in_turn_long [] = sym (mul-zero n)
  in_turn_long (x ∷ xs) = omega (arith, length-append (bytes x) (in_turn bytes xs), long x, in_turn_long xs, mul-suc n (length xs))

  -- written, and read again
  module _ (Fits : X → Type 0) (again : (x : X) → Fits x → item (bytes x) ≡ x) where
    items_again : (xs : List X) → AllByRecursion Fits xs → map item (first_chunks n (length xs) (in_turn bytes xs)) ≡ xs
    items_again [] h = refl
    items_again (x ∷ xs) h =
        ap₂ ◌∷◌ (ap item (take_at (bytes x) (in_turn bytes xs) n (long x)) ∙ again x h.0) (ap (λ bs. map item (first_chunks n (length xs) bs)) (drop_at (bytes x) (in_turn bytes xs) n (long x)) ∙ items_again xs h.1)

    items_read : (xs : List X) → AllByRecursion Fits xs → map item (packed n (in_turn bytes xs)) ≡ xs
    items_read xs h =
        let count = ap (λ k. k / n) (in_turn_long xs) ∙ mul-div_cancel_left (length xs) some in
        ap (λ k. map item (first_chunks n k (in_turn bytes xs))) count ∙ items_again xs h

  -- read, and written again
  module _ (spelt : (bs : List ℕ) → length bs ≡ n → AreBytes bs → bs ≡ bytes (item bs)) where
    items_back : (k : ℕ) (bs : List ℕ) → length bs ≡ n * k → AreBytes bs → bs ≡ in_turn bytes (map item (first_chunks n k bs))
    items_back zero [] l h = refl
    items_back zero (b ∷ bs) l h = absurd (omega arith)
    items_back (suc k) bs l h =
        let room : length bs ≡ n * k + n = l ∙ mul-suc n k in
        sym (take-append-drop n bs)
        ∙ ap₂ ◌++◌ (spelt (take n bs) (length-take-le n bs (omega arith)) (bytes_before n bs h)) (items_back k (drop n bs) (omega (arith, length-drop n bs)) (bytes_after n bs h))

    items_spelt : (k : ℕ) (bs : List ℕ) → length bs ≡ n * k → AreBytes bs → (bs ≡ in_turn bytes (map item (packed n bs))) × (length (map item (packed n bs)) ≡ k)
    items_spelt k bs l h =
        let count = ap (λ m. m / n) l ∙ mul-div_cancel_left k some in
        let back = ap (λ m. in_turn bytes (map item (first_chunks n m bs))) (sym count) in
        (items_back k bs l h ∙ back, ap (λ m. length (map item (first_chunks n m bs))) count ∙ length-map (first_chunks n k bs) item ∙ chunks_long n k bs)

-- ---- places
pub places_bytes_long : (ps : List ℕ) → length (places_bytes ps) ≡ 2 * length ps
places_bytes_long = in_turn_long 2 nat16 bytes16 (omega arith) (λ p. refl)

pub places_read : (ps : List ℕ) → AllPlaces ps → places_in (places_bytes ps) ≡ ps
places_read = items_read 2 nat16 bytes16 (omega arith) (λ p. refl) (λ p. p < 65536) (λ p h. number16 p [] h)

pub place_spelt : (bs : List ℕ) → length bs ≡ 2 → AreBytes bs → bs ≡ bytes16 (nat16 bs)
place_spelt bs l h = back16 bs h (omega arith) ∙ ap (λ cs. bytes16 (nat16 bs) ++ cs) (drop_all 2 bs (omega arith))

pub places_spelt : (k : ℕ) (bs : List ℕ) → length bs ≡ 2 * k → AreBytes bs → (bs ≡ places_bytes (places_in bs)) × (length (places_in bs) ≡ k)
places_spelt = items_spelt 2 nat16 bytes16 (omega arith) (λ p. refl) place_spelt

-- ---- premises
pub premises_bytes_long : (ps : List Premise) → length (premises_bytes ps) ≡ 4 * length ps
premises_bytes_long = in_turn_long 4 premise_in premise_bytes (omega arith) (λ p. refl)

premises_read : (ps : List Premise) → AllPremises ps → premises_in (premises_bytes ps) ≡ ps
premises_read = items_read 4 premise_in premise_bytes (omega arith) (λ p. refl) PremiseFits (λ p h. ap₂ premise (number16 p.place (bytes16 p.multiplier) h.0) (number16 p.multiplier [] h.1))

pub premise_spelt : (bs : List ℕ) → length bs ≡ 4 → AreBytes bs → bs ≡ premise_bytes (premise_in bs)
premise_spelt bs l h =
    back16 bs h (omega arith)
    ∙ ap (λ cs. bytes16 (nat16 bs) ++ cs) (place_spelt (drop 2 bs) (omega (arith, length-drop 2 bs)) (bytes_after 2 bs h))

premises_spelt : (k : ℕ) (bs : List ℕ) → length bs ≡ 4 * k → AreBytes bs → (bs ≡ premises_bytes (premises_in bs)) × (length (premises_in bs) ≡ k)
premises_spelt = items_spelt 4 premise_in premise_bytes (omega arith) (λ p. refl) premise_spelt

-- ---- a line
abbrev line : List Premise → ℕ → Line
line ps d = record { premises = ps; divisor = d }

pub line_read_lem : (l : Line) (rest : List ℕ) → LineFits l → line_read (line_bytes l ++ rest) ≡ Ok (l, rest)
line_read_lem l rest h =
    let k = length l.premises in
    let front = premises_bytes l.premises in
    let last = bytes32 l.divisor in
    then_ok (byte_read (k ∷ ((front ++ last) ++ rest))) (k, (front ++ last) ++ rest) _ (number_read_lem 1 (k ∷ []) ((front ++ last) ++ rest) refl (λ bs. get_or bs 0 0) k refl)
    ∙ then_ok (part_read (4 * k) ((front ++ last) ++ rest)) (front, last ++ rest) _ (ap (part_read (4 * k)) (append_assoc front last rest) ∙ part_read_lem (4 * k) front (last ++ rest) (premises_bytes_long l.premises))
    ∙ then_ok (nat32_read (last ++ rest)) (l.divisor, rest) _ (number_read_lem 4 last rest refl nat32 l.divisor (number32 l.divisor rest h.1))
    ∙ ap (λ ps. Ok (line ps l.divisor, rest)) (premises_read l.premises h.0)

-- a line read with what follows it is the line in its bytes
module _ (bs : List ℕ) where
  abbrev count : ℕ
  count = get_or bs 0 0

  abbrev Inside : Line × List ℕ → Type 0
  Inside p = (line_in bs ≡ p.0) × (drop (5 + 4 * count) bs ≡ p.1)

  line_inside : Holds Inside (line_read bs)
  line_inside =
      holds_after 1 bs (count, drop 1 bs) Inside _ (λ l₁.
      holds_after (4 * count) (drop 1 bs) (take (4 * count) (drop 1 bs), drop (4 * count) (drop 1 bs)) Inside _ (λ l₂.
      holds_after 4 (drop (4 * count) (drop 1 bs)) (nat32 (drop (4 * count) (drop 1 bs)), drop 4 (drop (4 * count) (drop 1 bs))) Inside _ (λ l₃.
      (ap (λ cs. line (premises_in (take (4 * count) (drop 1 bs))) (nat32 cs)) (sym (drop-drop (4 * count) 1 bs)), sym rest))))
    where
      rest : drop 4 (drop (4 * count) (drop 1 bs)) ≡ drop (5 + 4 * count) bs
      rest =
          let sum : 1 + 4 * count + 4 ≡ 5 + 4 * count = omega arith in
          ap (drop 4) (drop-drop (4 * count) 1 bs) ∙ drop-drop 4 (1 + 4 * count) bs ∙ ap (λ m. drop m bs) sum

  abbrev pub LineSpelt : Line × List ℕ → Type 0
  LineSpelt p = (bs ≡ line_bytes p.0 ++ p.1) × AreBytes p.1 × (counted p.0.premises ≡ true)

  pub line-spelt : AreBytes bs → Holds LineSpelt (line_read bs)
  line-spelt h =
      holds_after 1 bs (count, drop 1 bs) LineSpelt _ (λ l₁.
      holds_after (4 * count) (drop 1 bs) (take (4 * count) (drop 1 bs), drop (4 * count) (drop 1 bs)) LineSpelt _ (λ l₂.
      holds_after 4 (drop (4 * count) (drop 1 bs)) (nat32 (drop (4 * count) (drop 1 bs)), drop 4 (drop (4 * count) (drop 1 bs))) LineSpelt _ (λ l₃.
      parts l₁ l₂ l₃)))
    where
      parts : 1 ≤ length bs → 4 * count ≤ length (drop 1 bs) → 4 ≤ length (drop (4 * count) (drop 1 bs)) → LineSpelt (line (premises_in (take (4 * count) (drop 1 bs))) (nat32 (drop (4 * count) (drop 1 bs))), drop 4 (drop (4 * count) (drop 1 bs)))
      parts l₁ l₂ l₃ =
          let fields = drop 1 bs in
          let front = take (4 * count) fields in
          let back = drop (4 * count) fields in
          let h₁ = bytes_after 1 bs h in
          let h₂ = bytes_after (4 * count) fields h₁ in
          let ps = premises_spelt count front (length-take-le (4 * count) fields l₂) (bytes_before (4 * count) fields h₁) in
          let small : count < 256 = h 0 in (
            drop_more bs 0 0 l₁
                ∙ ap (λ cs. count ∷ cs) (sym (take-append-drop (4 * count) fields) ∙ ap₂ ◌++◌ ps.0 (back32 back h₂ l₃) ∙ sym (append_assoc (premises_bytes (premises_in front)) (bytes32 (nat32 back)) (drop 4 back)))
                ∙ ap (λ k. k ∷ ((premises_bytes (premises_in front) ++ bytes32 (nat32 back)) ++ drop 4 back)) (sym ps.1),
            bytes_after 4 back h₂,
            le-leb (length (premises_in front)) 255 (omega (arith, ps.1)),
          )

-- ---- lines
pub lines_read : (ls : List Line) (rest : List ℕ) → AllLines ls → (after_lines (length ls) (lines_bytes ls ++ rest) ≡ Ok rest) × (lines_from (length ls) (lines_bytes ls ++ rest) ≡ ls)
lines_read [] rest h = (refl, refl)
lines_read (l ∷ ls) rest h =
    let bs = (line_bytes l ++ lines_bytes ls) ++ rest in
    let others = lines_bytes ls ++ rest in
    let first : line_read bs ≡ Ok (l, others) = ap line_read (append_assoc (line_bytes l) (lines_bytes ls) rest) ∙ line_read_lem l others h.0 in
    let inside = IfOk-at_ok (Inside bs) first (line_inside bs) in
    let more = lines_read ls rest h.1 in (
      then_ok (line_read bs) (l, others) (λ p. after_lines (length ls) p.1) first ∙ more.0,
      ap₂ ◌∷◌ inside.0 (ap (lines_from (length ls)) inside.1 ∙ more.1),
    )

abbrev pub LinesSpelt : ℕ → List ℕ → List ℕ → Type 0
LinesSpelt k bs rest = (bs ≡ lines_bytes (lines_from k bs) ++ rest) × (lines_counted (lines_from k bs) ≡ true)

pub lines_spelt : (k : ℕ) (bs : List ℕ) → AreBytes bs → Holds (LinesSpelt k bs) (after_lines k bs)
lines_spelt zero bs h = (refl, refl)
lines_spelt (suc k) bs h =
    holds_then (λ p. Inside bs p × LineSpelt bs p) (LinesSpelt (suc k) bs) (line_read bs) (λ p. after_lines k p.1) (holds_both (Inside bs) (LineSpelt bs) (line_read bs) (line_inside bs) (line-spelt bs h)) (λ p q.
    IfOk-weaker (after_lines k p.1) (LinesSpelt k p.1) (LinesSpelt (suc k) bs) (λ rest m. one_more p q.0 q.1 rest m) (lines_spelt k p.1 q.1.1))
  where
    one_more : (p : Line × List ℕ) → Inside bs p → LineSpelt bs p → (rest : List ℕ) → LinesSpelt k p.1 rest → LinesSpelt (suc k) bs rest
    one_more p i s rest m = (
      s.0 ∙ ap (λ cs. line_bytes p.0 ++ cs) m.0 ∙ sym (append_assoc (line_bytes p.0) (lines_bytes (lines_from k p.1)) rest) ∙ ap₂ (λ l cs. (line_bytes l ++ lines_bytes (lines_from k cs)) ++ rest) (sym i.0) (sym i.1),
      ap₂ (λ l cs. counted l.premises && lines_counted (lines_from k cs)) i.0 i.1 ∙ and_from (counted p.0.premises) (lines_counted (lines_from k p.1)) s.2 m.1,
    )
