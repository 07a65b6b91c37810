-- Tables with rows of +1 and of -1 at one variable alone.
use Rattle.std.proofs.Common.{◌≡◌, ℕ, zero, suc, ◌+◌, ◌*◌, ◌<◌, ◌≤◌, Bool, true, ◌&&◌, ltb, List, [], ◌∷◌, ◌++◌, map, length, replicate, ℤ, pos, neg_ℤ, nat_abs, is_some, Some, None, refl, ap, ◌∙◌, ap₂, arith}
use Rattle.std.specs.List.{ContainsAt as Has, AllByRecursion}
use Rattle.std.proofs.ByRecursion.{has_append_left}
use Rattle.std.proofs.lemmas.Bool.{and_from, cond-true, lt-ltb}
use Rattle.terms.specs.Integers.{eq_z, eq_zs}
use Rattle.terms.specs.Limits.{million, within}
use Rattle.terms.specs.Rows.{Row, negated, unit}
use Rattle.terms.proofs.Integers.{eq_z_refl, within_from}
use Rattle.law.specs.Lines.{no_row, row_at}
use Rattle.law.specs.Bounds.{bound, held_at, held_from, only_value, value_of}
use Rattle.law.proofs.Clear.{Yes, eq_zs_refl}

abbrev pub Near : ℤ → Type 0
Near z = nat_abs z ≤ 1000000

-- variable i is at most v
abbrev pub high : ℕ → ℕ → ℤ → Row
high n i v = record { coefficients = unit n i; right = v }

-- variable i is at least -v
abbrev pub low : ℕ → ℕ → ℤ → Row
low n i v = record { coefficients = negated (unit n i); right = v }

pub record Fixed (n : ℕ) (t : List Row) (i : ℕ) : Type 0 where
  pub value : ℤ
  pub above : Has t (high n i value)
  pub below : Has t (low n i (neg_ℤ value))
  pub near : Near value

pub record Free (n : ℕ) (t : List Row) (i : ℕ) : Type 0 where
  pub most : ℤ
  pub least : ℤ
  pub above : Has t (high n i most)
  pub below : Has t (low n i least)
  pub near_most : Near most
  pub near_least : Near least

pub free_push : (n : ℕ) (t : List Row) (r : Row) (i : ℕ) → Free n t i → Free n (t ++ r ∷ []) i
free_push n t r i f = record { most = f.most; least = f.least; above = has_append_left t (r ∷ []) _ f.above; below = has_append_left t (r ∷ []) _ f.below; near_most = f.near_most; near_least = f.near_least }

pub fixed_push : (n : ℕ) (t : List Row) (r : Row) (i : ℕ) → Fixed n t i → Fixed n (t ++ r ∷ []) i
fixed_push n t r i f = record { value = f.value; above = has_append_left t (r ∷ []) _ f.above; below = has_append_left t (r ∷ []) _ f.below; near = f.near }

-- ---- tests of a unit
pub yes_zeros : (f : ℤ → Bool) (m : ℕ) → f (pos 0) ≡ true → AllByRecursion Yes (map f (replicate m (pos 0)))
yes_zeros f zero h = tt
yes_zeros f (suc m) h = (h, yes_zeros f m h)

pub yes_unit : (f : ℤ → Bool) (n i : ℕ) → f (pos 0) ≡ true → f (pos 1) ≡ true → AllByRecursion Yes (map f (unit n i))
yes_unit f zero i h k = tt
yes_unit f (suc n) zero h k = (k, yes_zeros f n h)
yes_unit f (suc n) (suc i) h k = (h, yes_unit f n i h k)

-- ---- a table in which every variable is fixed
bound_own : (cs : List ℤ) (v : ℤ) → bound cs (record { coefficients = cs; right = v }) ≡ Some v
bound_own cs v = cond-true (eq_zs cs cs) (Some v) None (eq_zs_refl cs)

held : (n i : ℕ) (t : List Row) (f : Fixed n t i) → held_at n i (row_at t f.above.0) (row_at t f.below.0) ≡ Some f.value
held n i t f =
    let v = f.value in
    ap₂ (held_at n i) (f.above.2 no_row) (f.below.2 no_row)
    ∙ ap₂ only_value (bound_own (unit n i) v) (bound_own (negated (unit n i)) (neg_ℤ v))
    ∙ cond-true (eq_z (neg_ℤ v) (neg_ℤ v) && within million v) (Some v) None (and_from (eq_z (neg_ℤ v) (neg_ℤ v)) (within million v) (eq_z_refl (neg_ℤ v)) (within_from million v f.near))

-- two places for each of m variables from i on
pub record Places (n : ℕ) (t : List Row) (i m : ℕ) : Type 0 where
  pub list : List ℕ
  pub twice : length list ≡ 2 * m
  pub there : AllByRecursion Yes (map (λ p. ltb p (length t)) list)
  pub holding : AllByRecursion Yes (map is_some (held_from n i t list))
  pub long : length (map value_of (held_from n i t list)) ≡ m
  pub small : AllByRecursion Yes (map (within million) (map value_of (held_from n i t list)))

pub places : (n : ℕ) (t : List Row) (m i : ℕ) → i + m ≡ n → ((k : ℕ) → i ≤ k → k < n → Fixed n t k) → Places n t i m
places n t zero i e f = record { list = []; twice = refl; there = tt; holding = tt; long = refl; small = tt }
places n t (suc m) i e f =
    let h = f i (omega arith) (omega arith) in
    let r = places n t m (i + 1) (omega arith) (λ k a b. f k (omega arith) b) in
    record {
      list = h.above.0 ∷ h.below.0 ∷ r.list;
      twice = omega (arith, r.twice);
      there = (lt-ltb _ _ h.above.1, (lt-ltb _ _ h.below.1, r.there));
      holding = (ap is_some (held n i t h), r.holding);
      long = ap suc r.long;
      small = (ap (λ o. within million (value_of o)) (held n i t h) ∙ within_from million h.value h.near, r.small);
    }
