-- Bytes that are read as a step are what is written of that step.
use Rattle.std.proofs.Common.{◌≡◌, ℕ, ◌*◌, ◌<◌, ◌≤◌, min, true, cond, eqb, List, ◌∷◌, ◌++◌, length, get_or, take as firsts, drop as after, ℤ, Some, None, Ok, Err, Option, sym, refl, ap, ◌∙◌, subst, ap₂, arith, w64, to_z, of_z}
use Rattle.std.proofs.lemmas.List.{append_assoc, drop_more, length-take-le, take-append-drop}
use Rattle.std.proofs.lemmas.Int.{of_z-to_z}
use Rattle.std.proofs.lemmas.Result.{IfOk-at_ok}
use Rattle.std.proofs.lemmas.Bool.{and_from, eq-eqb, eqb-true, le-leb, lt-ltb}
use Rattle.terms.specs.Bytes.{nat16, nat64}
use Rattle.law.proofs.PremisesRead.{lines_long}
use Rattle.law.specs.Calls.{Call}
use Rattle.law.specs.Calls.Call.{cutoff}
use Rattle.law.specs.Spelt.{lines_from, places_in}
use Rattle.fields.specs.Bodies.{body_read}
use Rattle.fields.specs.declared.body.Body.{Body}
use Rattle.fields.specs.Bytes.{out_of_phase}
use Rattle.fields.specs.Maps.{map_fault, numbers_read}
use Rattle.spelling.specs.OneSpelling.{AreBytes, OneSpelling}
use Rattle.spelling.specs.StepsRead.{Reads, after_lines, branch_read, chain_read, cut_read, drop_read, infer_read, line_read, mapped_read, pin_read, step_fields, step_read, take_read}
use Rattle.spelling.specs.StepsWritten.{bytes16, bytes64, counted, lines_counted, mapped_bytes, places_bytes, spelling, suits}
use Rattle.spelling.proofs.ListsSpelt.{LineSpelt, LinesSpelt, line-spelt, lines_spelt, places_spelt}
use Rattle.spelling.proofs.MapsRead.{NumbersRight, Told, numbers_right}
use Rattle.spelling.proofs.NumbersSpelt.{back16, back64}
use Rattle.spelling.proofs.PartsRead.{Holds, bytes_after, bytes_before, holds_after, holds_either, holds_otherwise, holds_then}

-- what is read at these bytes is spelt so, and suits
abbrev StepSpelt : ℕ → ℕ → List ℕ → Option Call × List ℕ → Type 0
StepSpelt n w bs p = (bs ≡ spelling p.0 ++ p.1) × (suits n w p.0 ≡ true)

-- ---- numbers by a map
module _ (n : ℕ) (bs : List ℕ) (l : n ≤ 16) (h : AreBytes bs) where
  numbers_after : Holds (NumbersRight n (nat16 bs) (after 2 bs)) (numbers_read (nat16 bs) (after 2 bs))
  numbers_after = numbers_right n (nat16 bs) (after 2 bs) (omega (arith, h 0, h 1)) (bytes_after 2 bs h)

  mapped_spelt : (p : List ℤ × List ℕ) → 2 ≤ length bs → Told n (nat16 bs) (after 2 bs) p → bs ≡ mapped_bytes (firsts n p.0) ++ p.1
  mapped_spelt p l₁ t = back16 bs h l₁ ∙ ap₂ (λ m cs. bytes16 m ++ cs) t.0 t.1

  abbrev TakeSpelt : List ℤ × List ℕ → Type 0
  TakeSpelt p = (bs ≡ mapped_bytes (firsts n p.0) ++ p.1) × (length (firsts n p.0) ≡ n)

  values_spelt : Holds TakeSpelt (mapped_read n bs)
  values_spelt =
      holds_after 2 bs (nat16 bs, after 2 bs) TakeSpelt _ (λ l₁.
      holds_then (NumbersRight n (nat16 bs) (after 2 bs)) TakeSpelt (numbers_read (nat16 bs) (after 2 bs)) _ numbers_after (λ vs g.
      holds_otherwise TakeSpelt (map_fault n (nat16 bs) vs.0) (vs.0, vs.1) (λ e.
      (mapped_spelt vs l₁ (g.2 e), length-take-le n vs.0 (omega (arith, g.1))))))

  abbrev BodySpelt : Body × List ℕ → Type 0
  BodySpelt b = (bs ≡ (mapped_bytes (firsts n b.0.numbers) ++ bytes64 (of_z w64 b.0.right)) ++ b.1) × (length (firsts n b.0.numbers) ≡ n)

  body_spelt : Holds BodySpelt (body_read n bs)
  body_spelt =
      holds_after 2 bs (nat16 bs, after 2 bs) BodySpelt _ (λ l₁.
      holds_then (NumbersRight n (nat16 bs) (after 2 bs)) BodySpelt (numbers_read (nat16 bs) (after 2 bs)) _ numbers_after (λ vs g.
      holds_after 8 vs.1 (to_z w64 (nat64 vs.1), after 8 vs.1) BodySpelt _ (λ l₂.
      holds_otherwise BodySpelt (map_fault n (nat16 bs) vs.0) (body vs, after 8 vs.1) (λ e.
      (whole vs l₁ (g.2 e) l₂ g.0, length-take-le n vs.0 (omega (arith, g.1)))))))
    where
      body : List ℤ × List ℕ → Body
      body vs = record { numbers = vs.0; right = to_z w64 (nat64 vs.1) }

      whole : (vs : List ℤ × List ℕ) → 2 ≤ length bs → Told n (nat16 bs) (after 2 bs) vs → 8 ≤ length vs.1 → AreBytes vs.1 → bs ≡ (mapped_bytes (firsts n vs.0) ++ bytes64 (of_z w64 (to_z w64 (nat64 vs.1)))) ++ after 8 vs.1
      whole vs l₁ t l₂ a =
          let small : nat64 vs.1 < 18446744073709551616 = omega (arith, a 0, a 1, a 2, a 3, a 4, a 5, a 6, a 7) in
          let right : vs.1 ≡ bytes64 (of_z w64 (to_z w64 (nat64 vs.1))) ++ after 8 vs.1 = back64 vs.1 a l₂ ∙ ap (λ x. bytes64 x ++ after 8 vs.1) (sym (of_z-to_z w64 (nat64 vs.1) small)) in
          mapped_spelt vs l₁ t ∙ ap (λ cs. mapped_bytes (firsts n vs.0) ++ cs) right ∙ sym (append_assoc (mapped_bytes (firsts n vs.0)) (bytes64 (of_z w64 (to_z w64 (nat64 vs.1)))) (after 8 vs.1))

-- ---- steps, by the bytes after their letter
module _ (n w : ℕ) (bs : List ℕ) (h : AreBytes bs) where
  branch_spelt : n ≤ 16 → Holds (StepSpelt n w (66 ∷ bs)) (branch_read n bs)
  branch_spelt l = holds_then (BodySpelt n bs l h) (StepSpelt n w (66 ∷ bs)) (body_read n bs) _ (body_spelt n bs l h) (λ b g.
      (ap (λ cs. 66 ∷ cs) g.0, eq-eqb (length (firsts n b.0.numbers)) n g.1))

  take-spelt : n ≤ 16 → Holds (StepSpelt n w (84 ∷ bs)) (take_read n bs)
  take-spelt l = holds_then (TakeSpelt n bs l h) (StepSpelt n w (84 ∷ bs)) (mapped_read n bs) _ (values_spelt n bs l h) (λ p g.
      (ap (λ cs. 84 ∷ cs) g.0, eq-eqb (length (firsts n p.0)) n g.1))

  cut_spelt : Holds (StepSpelt n w (67 ∷ bs)) (cut_read bs)
  cut_spelt = holds_then (LineSpelt bs) (StepSpelt n w (67 ∷ bs)) (line_read bs) _ (line-spelt bs h) (λ p g. (ap (λ cs. 67 ∷ cs) g.0, g.2))

  drop-spelt : Holds (StepSpelt n w (68 ∷ bs)) (drop_read bs)
  drop-spelt = holds_after 2 bs (nat16 bs, after 2 bs) (StepSpelt n w (68 ∷ bs)) _ (λ l.
      let fits : nat16 bs < 65536 = omega (arith, h 0, h 1) in
      (ap (λ cs. 68 ∷ cs) (back16 bs h l), lt-ltb (nat16 bs) 65536 fits))

  pin_spelt : Holds (StepSpelt n w (80 ∷ bs)) (pin_read n bs)
  pin_spelt = holds_after (4 * n) bs (firsts (4 * n) bs, after (4 * n) bs) (StepSpelt n w (80 ∷ bs)) _ (λ l.
      let front = firsts (4 * n) bs in
      let long : length front ≡ 2 * (2 * n) = omega (arith, length-take-le (4 * n) bs l) in
      let ps = places_spelt (2 * n) front long (bytes_before (4 * n) bs h) in
      (ap (λ cs. 80 ∷ cs) (sym (take-append-drop (4 * n) bs) ∙ ap (λ cs. cs ++ after (4 * n) bs) ps.0), eq-eqb (length (places_in front)) (2 * n) ps.1))

  chain_spelt : Holds (StepSpelt n w (76 ∷ bs)) (chain_read bs)
  chain_spelt =
      let k = get_or bs 0 0 in
      let lines = lines_from k (after 1 bs) in
      let long = lines_long k (after 1 bs) in
      holds_after 1 bs (k, after 1 bs) (StepSpelt n w (76 ∷ bs)) _ (λ l.
      holds_then (LinesSpelt k (after 1 bs)) (StepSpelt n w (76 ∷ bs)) (after_lines k (after 1 bs)) _ (lines_spelt k (after 1 bs) (bytes_after 1 bs h)) (λ rest g. (
        ap (λ cs. 76 ∷ cs) (drop_more bs 0 0 l ∙ ap₂ ◌∷◌ (sym long) g.0),
        and_from (counted lines) (lines_counted lines) (le-leb (length lines) 255 (omega (arith, long, h 0))) g.1,
      )))

  infer_spelt : Holds (StepSpelt n w (73 ∷ bs)) (infer_read w bs)
  infer_spelt =
      let clue = firsts w bs in
      let fields = after w bs in
      let k = get_or fields 0 0 in
      let front = firsts (2 * k) (after 1 fields) in
      let rest = after (2 * k) (after 1 fields) in
      holds_after w bs (clue, fields) (StepSpelt n w (73 ∷ bs)) _ (λ l₁.
      holds_after 1 fields (k, after 1 fields) (StepSpelt n w (73 ∷ bs)) _ (λ l₂.
      holds_after (2 * k) (after 1 fields) (front, rest) (StepSpelt n w (73 ∷ bs)) _ (λ l₃.
      let a = bytes_after w bs h in
      let ps = places_spelt k front (length-take-le (2 * k) (after 1 fields) l₃) (bytes_before (2 * k) (after 1 fields) (bytes_after 1 fields a)) in
      let listed : fields ≡ (length (places_in front) ∷ places_bytes (places_in front)) ++ rest = drop_more fields 0 0 l₂ ∙ ap₂ ◌∷◌ (sym ps.1) (sym (take-append-drop (2 * k) (after 1 fields)) ∙ ap (λ cs. cs ++ rest) ps.0) in (
        ap (λ cs. 73 ∷ cs) (sym (take-append-drop w bs) ∙ ap (λ cs. clue ++ cs) listed ∙ sym (append_assoc clue (length (places_in front) ∷ places_bytes (places_in front)) rest)),
        and_from (eqb (length clue) w) (counted (places_in front)) (eq-eqb (length clue) w (length-take-le w bs l₁)) (le-leb (length (places_in front)) 255 (omega (arith, ps.1, a 0))),
      ))))

  lettered : (letter x : ℕ) (r : Reads) → Holds (StepSpelt n w (x ∷ bs)) r → eqb letter x ≡ true → Holds (StepSpelt n w (letter ∷ bs)) r
  lettered letter x r g e = subst (λ y. Holds (StepSpelt n w (y ∷ bs)) r) (sym (eqb-true letter x e)) g

  fields_spelt : (letter : ℕ) → n ≤ 16 → Holds (StepSpelt n w (letter ∷ bs)) (step_fields n w letter bs)
  fields_spelt letter l =
      either 66 (branch_read n bs) (branch_spelt l) _ (
      either 67 (cut_read bs) cut_spelt _ (
      either 76 (chain_read bs) chain_spelt _ (
      either 73 (infer_read w bs) infer_spelt _ (
      either 75 (Ok (Some cutoff, bs)) (refl, refl) _ (
      either 84 (take_read n bs) (take-spelt l) _ (
      either 68 (drop_read bs) drop-spelt _ (
      either 80 (pin_read n bs) pin_spelt _ (
      either 69 (Ok (None, bs)) (refl, refl) (Err out_of_phase) tt))))))))
    where
      either : (x : ℕ) (r : Reads) → Holds (StepSpelt n w (x ∷ bs)) r → (s : Reads) → Holds (StepSpelt n w (letter ∷ bs)) s → Holds (StepSpelt n w (letter ∷ bs)) (cond (eqb letter x) r s)
      either x r g s o = holds_either (StepSpelt n w (letter ∷ bs)) (eqb letter x) r s (λ e. lettered letter x r g e) (λ e. o)

step-spelt : (n w : ℕ) (bs : List ℕ) → n ≤ 16 → AreBytes bs → Holds (StepSpelt n w bs) (step_read n w bs)
step-spelt n w bs l h = holds_after 1 bs (get_or bs 0 0, after 1 bs) (StepSpelt n w bs) _ (λ l₁.
    let same : n ≡ min n 16 = omega arith in
    let whole : get_or bs 0 0 ∷ after 1 bs ≡ bs = sym (drop_more bs 0 0 l₁) in
    subst (λ m. Holds (StepSpelt n w bs) (step_fields m w (get_or bs 0 0) (after 1 bs))) same
    (subst (λ cs. Holds (StepSpelt n w cs) (step_fields n w (get_or bs 0 0) (after 1 bs))) whole (fields_spelt n w (after 1 bs) (bytes_after 1 bs h) (get_or bs 0 0) l)))

pub one_spelling : OneSpelling
one_spelling n w bytes o rest l h e = IfOk-at_ok (StepSpelt n w bytes) e (step-spelt n w bytes l h)
