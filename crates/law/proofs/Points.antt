-- A plan that lies in a table whose rows hold every variable is the point at which they hold it.
use Rattle.std.proofs.Common.{◌≡◌, ℕ, suc, ◌+◌, ◌*◌, Bool, true, false, cond, ◌&&◌, List, [], ◌∷◌, map, length, ℤ, neg_ℤ, ◌≤ℤ◌, is_some, Some, None, Option, refl, ap, ◌∙◌, ap₂, arith}
use Rattle.std.specs.List.{AllByRecursion}
use Rattle.std.proofs.lemmas.Int.{ints}
use Rattle.std.proofs.lemmas.Bool.{and_parts, false≢true}
use Rattle.terms.specs.Integers.{eq_z}
use Rattle.terms.specs.Limits.{million, within}
use Rattle.terms.specs.Rows.{Meets, Plan, Row, negated, reads, unit}
use Rattle.terms.proofs.Integers.{eq_z_true}
use Rattle.law.specs.Lines.{row_at}
use Rattle.law.specs.Bounds.{bound, held_at, held_from, only_value, value_of}
use Rattle.law.specs.Law.{LiesIn}
use Rattle.law.proofs.Clear.{Yes}
use Rattle.law.proofs.Dots.{dot-negated, dot-unit}
use Rattle.law.proofs.Follows.{bound_met, place_met}

between_bounds : (b : Bool) (a k v : ℤ) → (eq_z k (neg_ℤ a) && within million a) ≡ b → is_some (cond b (Some a) None) ≡ true → v ≤ℤ a → neg_ℤ v ≤ℤ k → v ≡ value_of (cond b (Some a) None)
between_bounds true a k v same some high low = let e = eq_z_true k (neg_ℤ a) (and_parts (eq_z k (neg_ℤ a)) (within million a) same).0 in omega (arith, ints)
between_bounds false a k v same some high low = absurd (false≢true some)

-- a value between two bounds that leave one
only_value_lem : (above below : Option ℤ) (v : ℤ) → is_some (only_value above below) ≡ true → ((a : ℤ) → above ≡ Some a → v ≤ℤ a) → ((k : ℤ) → below ≡ Some k → neg_ℤ v ≤ℤ k) → v ≡ value_of (only_value above below)
only_value_lem None below v some high low = absurd (false≢true some)
only_value_lem (Some a) None v some high low = absurd (false≢true some)
only_value_lem (Some a) (Some k) v some high low = between_bounds (eq_z k (neg_ℤ a) && within million a) a k v refl some (high a refl) (low k refl)

held_value : (n i : ℕ) (above below : Row) (x : Plan) → length x ≡ n → Meets x above → Meets x below → is_some (held_at n i above below) ≡ true → reads x i ≡ value_of (held_at n i above below)
held_value n i above below x long m o some =
    only_value_lem (bound (unit n i) above) (bound (negated (unit n i)) below) (reads x i) some
    (λ a e. let h = bound_met (unit n i) above x a e m in omega (arith, ints, dot-unit n i x long))
    (λ k e. let h = bound_met (negated (unit n i)) below x k e o in omega (arith, ints, dot-negated (unit n i) x, dot-unit n i x long))

-- ys is what x has from variable i on
pub is_point : (n i : ℕ) (t : List Row) (places : List ℕ) (x ys : Plan) → length x ≡ n → LiesIn t x → ((k : ℕ) → reads ys k ≡ reads x (i + k)) → length places ≡ 2 * length ys → AllByRecursion Yes (map is_some (held_from n i t places)) → ys ≡ map value_of (held_from n i t places)
is_point n i t [] x [] e h same l f = refl
is_point n i t (p ∷ []) x [] e h same l f = absurd (omega arith)
is_point n i t (p ∷ q ∷ ps) x [] e h same l f = absurd (omega arith)
is_point n i t [] x (y ∷ ys) e h same l f = absurd (omega arith)
is_point n i t (p ∷ []) x (y ∷ ys) e h same l f = absurd (omega arith)
is_point n i t (p ∷ q ∷ ps) x (y ∷ ys) e h same l f =
    ap₂ ◌∷◌ (same 0 ∙ ap (reads x) (omega arith) ∙ held_value n i (row_at t p) (row_at t q) x e (place_met x t p h) (place_met x t q h) f.0)
    (is_point n (i + 1) t ps x ys e h (λ k. same (suc k) ∙ ap (reads x) (omega arith)) (omega arith) f.1)
