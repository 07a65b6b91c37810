-- What a row of the table shows: that it stands for a difference, or bounds a variable.
use Rattle.std.specs.Prelude.{ℕ, ◌+◌, Bool, false, cond, ◌&&◌, List, [], ◌∷◌, map, ℤ, pos, neg_ℤ, Some, None, Option, int_le}
use Rattle.terms.specs.declared.difference.Difference.{Difference}
use Rattle.terms.specs.Integers.{eq_z, eq_zs}
use Rattle.terms.specs.Limits.{million, within}
use Rattle.terms.specs.Rows.{Plan, Row, difference_row, negated, unit}
use Rattle.theories.specs.Pairs.{every}
use Rattle.law.specs.Lines.{row_at}

-- the most that a row allows the sum of these coefficients, if it is about that sum
abbrev pub bound : List ℤ → Row → Option ℤ
bound coefficients r = cond (eq_zs r.coefficients coefficients) (Some r.right) None

abbrev pub all_zero : List ℤ → Bool
all_zero cs = every (map (eq_z (pos 0)) cs)

-- ---- differences
abbrev pub at_most : ℤ → Option ℤ → Bool
at_most most None = false
at_most most (Some b) = int_le b most

-- a row stands for a difference
abbrev pub stands_for : ℕ → Difference → Row → Bool
stands_for n d r = at_most d.most (bound (difference_row n d).coefficients r)

-- the difference's row has no coefficients
abbrev pub empty : ℕ → Difference → Bool
empty n d = all_zero (difference_row n d).coefficients

-- a premise is shown by the row at a place, which is not read where the premise's row is empty
abbrev pub shown_at : ℕ → List Row → Difference → ℕ → Bool
shown_at n t d place = cond (empty n d) (int_le (pos 0) d.most) (stands_for n d (row_at t place))

-- ---- variables
-- the value that a bound from above and one from below leave, if it is one and within 1,000,000 of zero
abbrev pub only_value : Option ℤ → Option ℤ → Option ℤ
only_value None below = None
only_value (Some a) None = None
only_value (Some a) (Some b) = cond (eq_z b (neg_ℤ a) && within million a) (Some a) None

-- the value at which two rows hold variable i: one bounds it from above, the other from below
abbrev pub held_at : ℕ → ℕ → Row → Row → Option ℤ
held_at n i above below = only_value (bound (unit n i) above) (bound (negated (unit n i)) below)

-- the values of the variables from i on, two places for each
abbrev pub held_from : ℕ → ℕ → List Row → List ℕ → List (Option ℤ)
held_from n i t [] = []
held_from n i t (p ∷ []) = []
held_from n i t (p ∷ q ∷ ps) = held_at n i (row_at t p) (row_at t q) ∷ held_from n (i + 1) t ps

abbrev pub value_of : Option ℤ → ℤ
value_of None = pos 0
value_of (Some v) = v

-- the point of these values
abbrev pub point : ℕ → List Row → List ℕ → Plan
point n t places = map value_of (held_from n 0 t places)
