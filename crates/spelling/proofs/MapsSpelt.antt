-- Numbers by a map, and their bytes: what is written is read back.
use Rattle.std.proofs.Common.{◌≡◌, ℕ, zero, suc, ◌+◌, ◌*◌, ◌/◌, ◌%◌, ◌^◌, ◌<◌, ◌≤◌, Bool, true, false, cond, not, ◌&&◌, ◌||◌, eqb, ltb, List, [], ◌∷◌, ◌++◌, length, take, ℤ, pos, None, Ok, sym, refl, ap, ◌∙◌, ap₂, arith, pow_pos, w32, SFits, to_z, of_z}
use mir.ValLaws.{of_z_fits}
use Rattle.std.proofs.lemmas.Int.{to_z-of_z}
use Rattle.std.proofs.lemmas.Bool.{lt-ltb}
use Rattle.terms.proofs.Integers.{eq_z_true}
use Rattle.terms.specs.Bytes.{nat32}
use Rattle.terms.specs.declared.fault.Cause.TheVariants.{BadMap}
use Rattle.terms.specs.Faults.{first_unless}
use Rattle.terms.specs.Integers.{eq_z}
use Rattle.fields.specs.Maps.{in_front, map_fault, map_tests, number_then, numbers_read, odd, one_read, spread}
use Rattle.spelling.specs.OneSpelling.{AllNumbers}
use Rattle.spelling.specs.StepsWritten.{bytes32, map_of, numbers_bytes}
use Rattle.spelling.proofs.NumbersSpelt.{number32}
use Rattle.spelling.proofs.PartsRead.{number_read_lem}

-- ---- the map
pub map_small : (k : ℕ) (vs : List ℤ) → length vs ≤ k → map_of vs < 2 ^ k
map_small k [] l = pow_pos k
map_small zero (v ∷ vs) l = absurd (omega arith)
map_small (suc k) (v ∷ vs) l = by (eq_z v (pos 0)) (map_small k vs (omega arith))
  where
    by : (b : Bool) → map_of vs < 2 ^ k → cond b 0 1 + 2 * map_of vs < 2 ^ suc k
    by true h = let twice : 2 ^ suc k ≡ 2 * 2 ^ k = omega arith in omega arith
    by false h = let twice : 2 ^ suc k ≡ 2 * 2 ^ k = omega arith in omega arith

-- its lowest bit, and the others
map-bit : (v : ℤ) (vs : List ℤ) → (odd (map_of (v ∷ vs)) ≡ not (eq_z v (pos 0))) × (map_of (v ∷ vs) / 2 ≡ map_of vs)
map-bit v vs = by (eq_z v (pos 0))
  where
    by : (b : Bool) → (odd (cond b 0 1 + 2 * map_of vs) ≡ not b) × ((cond b 0 1 + 2 * map_of vs) / 2 ≡ map_of vs)
    by true = let rest : (0 + 2 * map_of vs) % 2 ≡ 0 = omega arith in (ap (λ r. eqb r 1) rest, omega arith)
    by false = let rest : (1 + 2 * map_of vs) % 2 ≡ 1 = omega arith in (ap (λ r. eqb r 1) rest, omega arith)

-- ---- the numbers, and zeros up to k of them
abbrev pub padded : ℕ → List ℤ → List ℤ
padded zero vs = []
padded (suc k) [] = pos 0 ∷ padded k []
padded (suc k) (v ∷ vs) = v ∷ padded k vs

pub padded_front : (k : ℕ) (vs : List ℤ) → length vs ≤ k → take (length vs) (padded k vs) ≡ vs
padded_front k [] l = refl
padded_front zero (v ∷ vs) l = absurd (omega arith)
padded_front (suc k) (v ∷ vs) l = ap (λ us. v ∷ us) (padded_front k vs (omega arith))

one_read_lem : (v : ℤ) (vs : List ℤ) (rest : List ℕ) → SFits w32 v → one_read (odd (map_of (v ∷ vs))) (numbers_bytes (v ∷ vs) ++ rest) ≡ Ok (v, numbers_bytes vs ++ rest)
one_read_lem v vs rest f = ap (λ b. one_read b (numbers_bytes (v ∷ vs) ++ rest)) (map-bit v vs).0 ∙ by (eq_z v (pos 0)) refl
  where
    by : (b : Bool) → eq_z v (pos 0) ≡ b → one_read (not b) ((cond b [] (bytes32 (of_z w32 v)) ++ numbers_bytes vs) ++ rest) ≡ Ok (v, numbers_bytes vs ++ rest)
    by true e = ap (λ z. Ok (z, numbers_bytes vs ++ rest)) (sym (eq_z_true v (pos 0) e))
    by false e = number_read_lem 4 (bytes32 (of_z w32 v)) (numbers_bytes vs ++ rest) refl (λ bs. to_z w32 (nat32 bs)) v (ap (to_z w32) (number32 (of_z w32 v) (numbers_bytes vs ++ rest) (of_z_fits w32 v f).fits) ∙ to_z-of_z w32 v f)

spread_read : (k : ℕ) (vs : List ℤ) (rest : List ℕ) → length vs ≤ k → AllNumbers vs → spread k (map_of vs) (numbers_bytes vs ++ rest) ≡ Ok (padded k vs, rest)
spread_read zero [] rest l h = refl
spread_read zero (v ∷ vs) rest l h = absurd (omega arith)
spread_read (suc k) [] rest l h = ap (in_front (pos 0)) (spread_read k [] rest (omega arith) tt)
spread_read (suc k) (v ∷ vs) rest l h =
    ap (number_then (spread k (map_of (v ∷ vs) / 2))) (one_read_lem v vs rest h.0)
    ∙ ap (λ m. in_front v (spread k m (numbers_bytes vs ++ rest))) (map-bit v vs).1
    ∙ ap (in_front v) (spread_read k vs rest (omega arith) h.1)

pub numbers_read_lem : (vs : List ℤ) (rest : List ℕ) → length vs ≤ 16 → AllNumbers vs → numbers_read (map_of vs) (numbers_bytes vs ++ rest) ≡ Ok (padded 16 vs, rest)
unfolding numbers_read
numbers_read_lem vs rest l h = spread_read 16 vs rest l h

-- ---- the tests
none_passed : (n spot i k : ℕ) → first_unless BadMap spot (map_tests n i 0 (padded k [])) ≡ None
none_passed n spot i zero = refl
none_passed n spot i (suc k) = none_passed n (spot + 1) (i + 1) k

bit_passed : (i n : ℕ) (v : ℤ) (vs : List ℤ) → i < n → (not (odd (map_of (v ∷ vs))) || (ltb i n && not (eq_z v (pos 0)))) ≡ true
bit_passed i n v vs l = ap (λ b. not b || (ltb i n && not (eq_z v (pos 0)))) (map-bit v vs).0 ∙ by (eq_z v (pos 0))
  where
    by : (b : Bool) → (not (not b) || (ltb i n && not b)) ≡ true
    by true = refl
    by false = ap (λ t. t && true) (lt-ltb i n l)

tests_passed : (n spot i k : ℕ) (vs : List ℤ) → i + length vs ≤ n → first_unless BadMap spot (map_tests n i (map_of vs) (padded k vs)) ≡ None
tests_passed n spot i k [] l = none_passed n spot i k
tests_passed n spot i zero (v ∷ vs) l = refl
tests_passed n spot i (suc k) (v ∷ vs) l =
    ap₂ (λ b m. first_unless BadMap spot (b ∷ map_tests n (i + 1) m (padded k vs))) (bit_passed i n v vs (omega arith)) (map-bit v vs).1
    ∙ tests_passed n (spot + 1) (i + 1) k vs (omega arith)

pub map_passed : (n : ℕ) (vs : List ℤ) → length vs ≤ n → map_fault n (map_of vs) (padded 16 vs) ≡ None
map_passed n vs l = tests_passed n 0 0 16 vs (omega arith)
