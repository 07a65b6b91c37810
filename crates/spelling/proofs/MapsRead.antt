-- Numbers by a map, and their bytes: what is read is what is written of it.
use Rattle.std.proofs.Common.{◌≡◌, ℕ, zero, suc, ◌+◌, ◌-◌, ◌*◌, ◌/◌, ◌%◌, ◌^◌, ◌<◌, Bool, true, false, cond, not, ◌&&◌, ◌||◌, ltb, List, [], ◌∷◌, ◌++◌, length, take, drop, ℤ, pos, None, Ok, Err, Result, sym, refl, ap, ◌∙◌, subst, ap₂, arith, w32, to_z, of_z}
use Rattle.std.proofs.lemmas.List.{append_assoc, take_all}
use Rattle.std.proofs.lemmas.Int.{of_z-to_z}
use Rattle.std.proofs.lemmas.Result.{IfOk-weaker}
use Rattle.std.proofs.lemmas.Bool.{and_parts, eqb-false, eqb-true, ltb-true, true≢false}
use Rattle.terms.proofs.Integers.{eq_z_same}
use Rattle.terms.proofs.Passed.{clash}
use Rattle.terms.specs.Bytes.{nat32}
use Rattle.terms.specs.declared.fault.Cause.TheVariants.{BadMap}
use Rattle.terms.specs.declared.fault.Fault.{Fault}
use Rattle.terms.specs.Faults.{first_unless}
use Rattle.terms.specs.Integers.{eq_z}
use Rattle.fields.specs.Maps.{in_front, map_fault, map_tests, number_then, numbers_read, odd, one_read, spread}
use Rattle.spelling.specs.OneSpelling.{AreBytes}
use Rattle.spelling.specs.StepsWritten.{bytes32, map_of, number_bytes, numbers_bytes}
use Rattle.spelling.proofs.NumbersSpelt.{back32}
use Rattle.spelling.proofs.PartsRead.{Holds, bytes_after, holds_here}

-- ---- one bit
abbrev bit_bytes : Bool → ℤ → List ℕ
bit_bytes set v = cond set (bytes32 (of_z w32 v)) []

abbrev OneSpelt : Bool → List ℕ → ℤ × List ℕ → Type 0
OneSpelt set bs p = (bs ≡ bit_bytes set p.0 ++ p.1) × AreBytes p.1 × (set ≡ false → p.0 ≡ pos 0)

one_spelt : (set : Bool) (bs : List ℕ) → AreBytes bs → Holds (OneSpelt set bs) (one_read set bs)
one_spelt true bs h =
    let small : nat32 bs < 4294967296 = omega (arith, h 0, h 1, h 2, h 3) in
    holds_here 4 bs (to_z w32 (nat32 bs), drop 4 bs) (OneSpelt true bs) (λ l.
    (back32 bs h l ∙ ap (λ x. bytes32 x ++ drop 4 bs) (sym (of_z-to_z w32 (nat32 bs) small)), bytes_after 4 bs h, λ e. absurd (true≢false e)))
one_spelt false bs h = (refl, h, λ e. refl)

-- a test that passed: the bit is set where the number is not 0, and then it is one of the n
module _ (i n : ℕ) (v : ℤ) where
  bit_tells : (set : Bool) → (set ≡ false → v ≡ pos 0) → (not set || (ltb i n && not (eq_z v (pos 0)))) ≡ true → (set ≡ not (eq_z v (pos 0))) × (set ≡ true → i < n)
  bit_tells true z e = let both = and_parts (ltb i n) (not (eq_z v (pos 0))) e in (sym both.1, λ t. ltb-true i n both.0)
  bit_tells false z e = (sym (ap not (eq_z_same v (pos 0) (z refl))), λ t. absurd (true≢false (sym t)))

bit_of : (m : ℕ) (b : Bool) → odd m ≡ not b → m ≡ cond b 0 1 + 2 * (m / 2)
bit_of m true e = let even = eqb-false (m % 2) 1 e in omega arith
bit_of m false e = omega (arith, eqb-true (m % 2) 1 e)

bytes_of : (b : Bool) (v : ℤ) → bit_bytes (not b) v ≡ cond b [] (bytes32 (of_z w32 v))
bytes_of true v = refl
bytes_of false v = refl

first_passed : (spot : ℕ) (b : Bool) (bs : List Bool) → first_unless BadMap spot (b ∷ bs) ≡ None → (b ≡ true) × (first_unless BadMap (spot + 1) bs ≡ None)
first_passed spot true bs e = (refl, e)
first_passed spot false bs e = clash (cc)

-- ---- all bits
holds_front : (Q : List ℤ × List ℕ → Type 0) (z : ℤ) (r : Result (List ℤ × List ℕ) Fault) → Holds (λ q. Q (z ∷ q.0, q.1)) r → Holds Q (in_front z r)
holds_front Q z (Ok q) h = h
holds_front Q z (Err f) h = tt

holds_number_then : (P : ℤ × List ℕ → Type 0) (Q : List ℤ × List ℕ → Type 0) (go : List ℕ → Result (List ℤ × List ℕ) Fault) (r : Result (ℤ × List ℕ) Fault) → Holds P r → ((p : ℤ × List ℕ) → P p → Holds (λ q. Q (p.0 ∷ q.0, q.1)) (go p.1)) → Holds Q (number_then go r)
holds_number_then P Q go (Ok p) h g = holds_front Q p.0 (go p.1) (g p h)
holds_number_then P Q go (Err f) h g = tt

-- the map and the bytes are those of the first j numbers
abbrev pub Told : ℕ → ℕ → List ℕ → List ℤ × List ℕ → Type 0
Told j m bs p = (m ≡ map_of (take j p.0)) × (bs ≡ numbers_bytes (take j p.0) ++ p.1)

-- those numbers are what is left of n from i on
module _ (n : ℕ) where
  abbrev Spread : ℕ → ℕ → ℕ → ℕ → ℕ → List ℕ → List ℤ × List ℕ → Type 0
  Spread k spot i j m bs p = AreBytes p.1 × (length p.0 ≡ k) × (first_unless BadMap spot (map_tests n i m p.0) ≡ None → Told j m bs p)

  one_more : (i j m : ℕ) (bs : List ℕ) (p : ℤ × List ℕ) (q : List ℤ × List ℕ) → j ≡ n - i → OneSpelt (odd m) bs p → (not (odd m) || (ltb i n && not (eq_z p.0 (pos 0)))) ≡ true → Told (j - 1) (m / 2) p.1 q → Told j m bs (p.0 ∷ q.0, q.1)
  one_more i zero m bs p q e o t h = by (odd m) refl
    where
      by : (b : Bool) → odd m ≡ b → Told 0 m bs (p.0 ∷ q.0, q.1)
      by true s = absurd (omega (arith, (bit_tells i n p.0 (odd m) o.2 t).1 s))
      by false s = (omega (arith, bit_of m true s, h.0), o.0 ∙ ap (λ b. bit_bytes b p.0 ++ p.1) s ∙ h.1)
  one_more i (suc j) m bs p q e o t h =
      let v = p.0 in
      let none = eq_z v (pos 0) in
      let tells = (bit_tells i n v (odd m) o.2 t).0 in
      let less : suc j - 1 ≡ j = omega arith in
      let more = subst (λ k. Told k (m / 2) p.1 q) less h in (
        bit_of m none tells ∙ ap (λ x. cond none 0 1 + 2 * x) more.0,
        o.0 ∙ ap (λ b. bit_bytes b v ++ p.1) tells ∙ ap₂ ◌++◌ (bytes_of none v) more.1 ∙ sym (append_assoc (number_bytes v) (numbers_bytes (take j q.0)) q.1),
      )

  spread-spelt : (k spot i j m : ℕ) (bs : List ℕ) → m < 2 ^ k → j ≡ n - i → AreBytes bs → Holds (Spread k spot i j m bs) (spread k m bs)
  spread-spelt zero spot i j m bs l e h =
      let none : m ≡ 0 = omega arith in
      let empty = sym (take_all {A = ℤ} j [] (omega arith)) in
      (h, refl, λ t. (none ∙ ap map_of empty, ap (λ vs. numbers_bytes vs ++ bs) empty))
  spread-spelt (suc k) spot i j m bs l e h =
      let twice : 2 ^ suc k ≡ 2 * 2 ^ k = omega arith in
      holds_number_then (OneSpelt (odd m) bs) (Spread (suc k) spot i j m bs) (spread k (m / 2)) (one_read (odd m) bs) (one_spelt (odd m) bs h) (λ p o.
      IfOk-weaker (spread k (m / 2) p.1) (Spread k (spot + 1) (i + 1) (j - 1) (m / 2) p.1) (λ q. Spread (suc k) spot i j m bs (p.0 ∷ q.0, q.1)) (λ q g. (
        g.0,
        ap suc g.1,
        λ t.
            let passed = first_passed spot (not (odd m) || (ltb i n && not (eq_z p.0 (pos 0)))) (map_tests n (i + 1) (m / 2) q.0) t in
            one_more i j m bs p q e o passed.0 (g.2 passed.1),
      )) (spread-spelt k (spot + 1) (i + 1) (j - 1) (m / 2) p.1 (omega arith) (omega arith) o.1))

  abbrev pub NumbersRight : ℕ → List ℕ → List ℤ × List ℕ → Type 0
  NumbersRight m bs p = AreBytes p.1 × (length p.0 ≡ 16) × (map_fault n m p.0 ≡ None → Told n m bs p)

  pub numbers_right : (m : ℕ) (bs : List ℕ) → m < 65536 → AreBytes bs → Holds (NumbersRight m bs) (numbers_read m bs)
  unfolding numbers_read
  numbers_right m bs l h = spread-spelt 16 0 0 n m bs l (omega arith) h
