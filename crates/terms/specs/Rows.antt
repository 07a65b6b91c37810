-- Plans, rows and differences: what the words mean.
use Rattle.std.specs.Prelude.{ℕ, zero, suc, Bool, List, [], ◌∷◌, map, replicate, ℤ, pos, ◌+ℤ◌, ◌-ℤ◌, ◌*ℤ◌, neg_ℤ, ◌≤ℤ◌, int_le, slice_index_or}
use Rattle.terms.specs.declared.difference.Difference.{Difference}

-- a plan is one whole number for each variable
abbrev pub Plan : Type 0
Plan = List ℤ

-- a plan reads 0 at a place past its end
abbrev pub reads : Plan → ℕ → ℤ
reads x i = slice_index_or x i (pos 0)

-- the sum of coefficient times value; what is missing counts as 0
abbrev pub dot : List ℤ → Plan → ℤ
dot [] xs = pos 0
dot (c ∷ cs) [] = pos 0
dot (c ∷ cs) (x ∷ xs) = c *ℤ x +ℤ dot cs xs

-- coefficients and a right side
pub record Row : Type 0 where
  pub coefficients : List ℤ
  pub right : ℤ

-- the sum of coefficient times value is at most the right side
abbrev pub Meets : Plan → Row → Type 0
Meets x r = dot r.coefficients x ≤ℤ r.right

-- the same as a test
abbrev pub meets : Plan → Row → Bool
meets x r = int_le (dot r.coefficients x) r.right

abbrev pub negated : List ℤ → List ℤ
negated cs = map neg_ℤ cs

-- a plan meets this row exactly if it misses r
abbrev pub opposite : Row → Row
opposite r = record { coefficients = negated r.coefficients; right = neg_ℤ r.right -ℤ pos 1 }

-- at least, as at most: all signs turned
abbrev pub turned : Row → Row
turned r = record { coefficients = negated r.coefficients; right = neg_ℤ r.right }

-- the sum of two lists, place by place; the longer one goes on
abbrev pub plus : List ℤ → List ℤ → List ℤ
plus [] bs = bs
plus (a ∷ cs) [] = a ∷ cs
plus (a ∷ cs) (b ∷ bs) = (a +ℤ b) ∷ plus cs bs

-- 1 at place i alone, of n; nothing where i is n or more
abbrev pub unit : ℕ → ℕ → List ℤ
unit zero i = []
unit (suc n) zero = pos 1 ∷ replicate n (pos 0)
unit (suc n) (suc i) = pos 0 ∷ unit n i

-- the value at `first` minus the value at `second` is at most `most`
abbrev pub Holds : Plan → Difference → Type 0
Holds x d = (reads x d.first -ℤ reads x d.second) ≤ℤ d.most

-- +1 at `first` and -1 at `second`, each only below n; they cancel where the two are one
abbrev pub difference_row : ℕ → Difference → Row
difference_row n d = record { coefficients = plus (unit n d.first) (negated (unit n d.second)); right = d.most }
