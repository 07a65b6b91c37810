-- Sums that grow by one premise after another, and stay small enough for 64 bits.
use Rattle.std.proofs.Common.{◌≡◌, ℕ, ◌+◌, ◌*◌, ◌^◌, ◌<◌, ◌≤◌, List, [], ◌∷◌, map, length, get_or, take, drop, replicate, ℤ, pos, ◌+ℤ◌, ◌*ℤ◌, nat_abs, sym, refl, ap, ◌∙◌, ap₂, ⊎_elim, add-mul, mul-le-mul, arith, w32, w64, SFits, to_z, of_z}
use mathlib.Core.Path.{subst⁻¹}
use Rattle.std.specs.List.{AllByRecursion}
use Rattle.std.proofs.ByRecursion.{All-from_get_or}
use Rattle.std.proofs.lemmas.List.{drop_all, drop_more, ext_get_or, get_or-map, get_or_past, get_or-replicate, get_or-take, length-take-le}
use Rattle.std.proofs.lemmas.Int.{ints, to_z-of_z, to_z_pos}
use Rattle.std.proofs.lemmas.Bool.{cases_lt}
use Rattle.terms.specs.declared.row.Row.{Row as Stored}
use Rattle.terms.specs.Rows.{Row}
use Rattle.terms.specs.Stored.{row_of}
use Rattle.terms.proofs.Integers.{product_near}
use Rattle.terms.proofs.Places.{at_front}
use Rattle.law.specs.declared.premise.Premise.{Premise}
use Rattle.law.specs.Lines.{no_row, row_at, summed}
use Rattle.derivation.specs.Sums.{no_premise}
use Rattle.derivation.proofs.SumsByPlace.{Wide, summed_at_lem, summed_wide, summed_at}

-- a number of 32 bits, read at 64
pub widened : (r : ℤ) → SFits w32 r → to_z w64 (of_z w64 (to_z w32 (of_z w32 r))) ≡ r
widened r f =
    let g : SFits w64 r = omega (arith, ints) in
    ap (λ x. to_z w64 (of_z w64 x)) (to_z-of_z w32 r f) ∙ to_z-of_z w64 r g

-- one number more of a sum at 64 bits: z is the sum a as it is stored, and q the number r
module _ (a r : ℤ) {z q : ℤ} (m : ℕ) (fz : SFits w64 z) (e : z ≡ a) (is : q ≡ r) (l : m < 2 ^ 16) (h : nat_abs a + m * nat_abs r < 2 ^ 63) where
  near : nat_abs (pos m *ℤ r) ≤ m * nat_abs r
  near = product_near m (nat_abs r) (pos m) r (omega arith) (omega arith)

  sum_is : to_z w64 (of_z w64 z) +ℤ to_z w64 (of_z w64 (to_z w64 m *ℤ q)) ≡ a +ℤ pos m *ℤ r
  sum_is =
      let p = near in
      let fp : SFits w64 (pos m *ℤ r) = omega (arith, ints) in
      let k : m < 2 ^ 63 = omega arith in
      ap₂ ◌+ℤ◌ (to_z-of_z w64 z fz ∙ e) (ap (λ x. to_z w64 (of_z w64 x)) (ap₂ ◌*ℤ◌ (to_z_pos w64 m k) is) ∙ to_z-of_z w64 (pos m *ℤ r) fp)

  sum-fits : SFits w64 (a +ℤ pos m *ℤ r)
  sum-fits = let p = near in omega (arith, ints)

  pub added_fits : SFits w64 (to_z w64 (of_z w64 z) +ℤ to_z w64 (of_z w64 (to_z w64 m *ℤ q)))
  added_fits = subst⁻¹ (SFits w64) sum_is sum-fits

  pub added_is : to_z w64 (of_z w64 (to_z w64 (of_z w64 z) +ℤ to_z w64 (of_z w64 (to_z w64 m *ℤ q)))) ≡ a +ℤ pos m *ℤ r
  added_is = ap (λ x. to_z w64 (of_z w64 x)) sum_is ∙ to_z-of_z w64 (a +ℤ pos m *ℤ r) sum-fits

-- ---- the sum of a line's rows
-- the sums so far lack what is left of the premises
pub record Summing (n : ℕ) (t : List Row) (ps : List Premise) (i : ℕ) (cs : List ℤ) (right : ℤ) : Type 0 where
  pub sums : (k : ℕ) → k < n → get_or cs k (pos 0) +ℤ summed_at t (drop i ps) k ≡ summed_at t ps k
  pub small : (k : ℕ) → k < n → nat_abs (get_or cs k (pos 0)) ≤ i * 10000000000
  pub rights : right +ℤ (summed t (drop i ps)).right ≡ (summed t ps).right
  pub near : nat_abs right ≤ i * 200000000000000000
  pub long : length cs ≡ 16

-- a row within the row limits
pub record Limited (r : Row) : Type 0 where
  pub small : (k : ℕ) → nat_abs (get_or r.coefficients k (pos 0)) ≤ 1000000
  pub near : nat_abs r.right ≤ 20000000000000

zeros_at : (k : ℕ) → get_or (replicate 16 (pos 0)) k (pos 0) ≡ pos 0
zeros_at k = ⊎_elim (λ (h : k < 16). get_or-replicate 16 k (pos 0) (pos 0) h) (λ (h : 16 ≤ k). get_or_past (replicate 16 (pos 0)) k (pos 0) h) (cases_lt k 16)

pub summing_none : (n : ℕ) (t : List Row) (ps : List Premise) → Summing n t ps 0 (replicate 16 (pos 0)) (pos 0)
summing_none n t ps =
    record {
      sums = λ k h. ap (λ z. z +ℤ summed_at t ps k) (zeros_at k) ∙ zero_left (summed_at t ps k);
      small = λ k h. subst⁻¹ (λ z. nat_abs z ≤ 0 * 10000000000) (zeros_at k) (omega arith);
      rights = zero_left (summed t ps).right;
      near = omega arith;
      long = refl;
    }
  where
    zero_left : (z : ℤ) → pos 0 +ℤ z ≡ z
    zero_left z = omega (arith, ints)

-- one term more, over plain variables
term_is : (a b z rest here total : ℤ) → b ≡ a +ℤ z → here ≡ z +ℤ rest → a +ℤ here ≡ total → b +ℤ rest ≡ total
term_is a b z rest here total e f g = omega (arith, ints)

term_small : (a b c : ℤ) (m i limit : ℕ) → b ≡ a +ℤ pos m *ℤ c → m ≤ 10000 → nat_abs c ≤ limit → nat_abs a ≤ i * (10000 * limit) → nat_abs b ≤ (i + 1) * (10000 * limit)
term_small a b c m i limit e h l s =
    let p : nat_abs (pos m *ℤ c) ≤ 10000 * limit = product_near 10000 limit (pos m) c h l in
    let q : (i + 1) * (10000 * limit) ≡ i * (10000 * limit) + 10000 * limit = add-mul i 1 (10000 * limit) ∙ omega arith in
    omega (arith, ints)

module _ (n : ℕ) (t : List Row) (ps : List Premise) (i : ℕ) (cs ds : List ℤ) (right after : ℤ) (p : Premise) (lt : i < length ps) (is : p ≡ get_or ps i no_premise) (times : p.multiplier ≤ 10000)
    (limited : Limited (row_at t p.place)) (s : Summing n t ps i cs right) where
  left_is : drop i ps ≡ p ∷ drop (i + 1) ps
  left_is = drop_more ps i no_premise lt ∙ ap (λ q. q ∷ drop (i + 1) ps) (sym is)

  pub summing_more : ((k : ℕ) → k < n → get_or ds k (pos 0) ≡ get_or cs k (pos 0) +ℤ pos p.multiplier *ℤ get_or (row_at t p.place).coefficients k (pos 0)) → length ds ≡ 16 →
      after ≡ right +ℤ pos p.multiplier *ℤ (row_at t p.place).right → Summing n t ps (i + 1) ds after
  summing_more grown long e =
      record {
        sums = λ k h. term_is (get_or cs k (pos 0)) (get_or ds k (pos 0)) _ (summed_at t (drop (i + 1) ps) k) (summed_at t (drop i ps) k) (summed_at t ps k) (grown k h) (ap (λ qs. summed_at t qs k) left_is) (s.sums k h);
        small = λ k h. term_small (get_or cs k (pos 0)) (get_or ds k (pos 0)) (get_or (row_at t p.place).coefficients k (pos 0)) p.multiplier i 1000000 (grown k h) times (limited.small k) (s.small k h);
        rights = term_is right after _ (summed t (drop (i + 1) ps)).right (summed t (drop i ps)).right (summed t ps).right e (ap (λ qs. (summed t qs).right) left_is) s.rights;
        near = term_small right after (row_at t p.place).right p.multiplier i 20000000000000 e times limited.near s.near;
        long = long;
      }

-- what a sum of at most 32 terms leaves room for
pub coefficient_fits : (a b : ℤ) (m i : ℕ) → nat_abs a ≤ i * 10000000000 → i < 32 → m ≤ 10000 → nat_abs b ≤ 1000000 → nat_abs a + m * nat_abs b < 2 ^ 63
coefficient_fits a b m i s h t l = let p : m * nat_abs b ≤ 10000 * 1000000 = mul-le-mul t l in omega arith

-- the record shows antt what the sum is
module _ {n : ℕ} {t : List Row} {ps : List Premise} {i : ℕ} {cs : List ℤ} {a : ℤ} (s : Summing n t ps i cs a) where
  pub right_fits : (b : ℤ) (m : ℕ) → i < 32 → m ≤ 10000 → nat_abs b ≤ 20000000000000 → nat_abs a + m * nat_abs b < 2 ^ 63
  right_fits b m h e l = let p : m * nat_abs b ≤ 10000 * 20000000000000 = mul-le-mul e l in omega (arith, s.near)

-- ---- stored rows
pub row_there : (n : ℕ) (rows : List Stored) (place : ℕ) (d : Stored) → place < length rows → row_at (map (row_of n) rows) place ≡ row_of n (get_or rows place d)
row_there n rows place d h = get_or-map (row_of n) rows place d no_row h

limited_stored : (n : ℕ) (r : Stored) → Limited (row_of n r)
limited_stored n r = record { small = at_front (λ z. nat_abs z ≤ 1000000) n r.coefficients.items (pos 0) (omega arith) r.coefficients.small; near = r.near }

pub limited_there : (n : ℕ) (rows : List Stored) (place : ℕ) (d : Stored) → place < length rows → Limited (row_at (map (row_of n) rows) place)
limited_there n rows place d h = subst⁻¹ Limited (row_there n rows place d h) (limited_stored n (get_or rows place d))

pub rows_wide : (n : ℕ) (rows : List Stored) → n ≤ 16 → AllByRecursion (Wide n) (map (row_of n) rows)
rows_wide n [] h = tt
rows_wide n (r ∷ rows) h = (length-take-le n r.coefficients.items (omega (arith, r.coefficients.long)), rows_wide n rows h)

-- ---- all premises summed
wide_sum : (n : ℕ) (t : List Row) (ps : List Premise) → 0 < length ps → AllByRecursion (Wide n) t → AllByRecursion (λ (q : Premise). q.place < length t) ps → Wide n (summed t ps)
wide_sum n t [] h w l = absurd (omega arith)
wide_sum n t (p ∷ ps) h w l = summed_wide n t p ps w l

none_left : (a b total : ℤ) → b ≡ pos 0 → a +ℤ b ≡ total → a ≡ total
none_left a b total e f = omega (arith, ints)

pub summing_all : (n : ℕ) (t : List Row) (ps : List Premise) (i : ℕ) (cs : List ℤ) {right : ℤ} → n ≤ 16 → 0 < length ps → length ps ≤ i → AllByRecursion (Wide n) t → ((k : ℕ) → k < length ps → (get_or ps k no_premise).place < length t) →
    Summing n t ps i cs right → record { coefficients = take n cs; right = right } ≡ summed t ps
summing_all n t ps i cs {right} h some end w places s =
    let none = drop_all i ps end in
    let wide = wide_sum n t ps some w (All-from_get_or (λ (q : Premise). q.place < length t) ps no_premise places) in
    let long : length (take n cs) ≡ n = length-take-le n cs (omega (arith, s.long)) in
    ap₂ (λ ds z. record { coefficients = ds; right = z })
    (ext_get_or (pos 0) (take n cs) (summed t ps).coefficients (long ∙ sym wide)
    (λ k l. get_or-take n cs k (pos 0) (omega arith) ∙ none_left (get_or cs k (pos 0)) (summed_at t (drop i ps) k) (summed_at t ps k) (ap (λ qs. summed_at t qs k) none) (s.sums k (omega arith)) ∙ sym (summed_at_lem t ps k)))
    (none_left right (summed t (drop i ps)).right (summed t ps).right (ap (λ qs. (summed t qs).right) none) s.rights)
