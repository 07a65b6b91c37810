-- Lines, each read from its own bytes.
use Rattle.std.proofs.Common.{◌≡◌, ℕ, zero, suc, ◌+◌, ◌*◌, ◌<◌, List, ◌∷◌, length, get_or, drop, refl, ap, arith}
use Rattle.law.specs.Spelt.{line_in, lines_from}

pub lines_long : (k : ℕ) (bs : List ℕ) → length (lines_from k bs) ≡ k
lines_long zero bs = refl
lines_long (suc k) bs = ap suc (lines_long k (drop (5 + 4 * get_or bs 0 0) bs))

-- lines are the first and those after it
pub lines_split : (k : ℕ) (bs : List ℕ) → 0 < k → lines_from k bs ≡ line_in bs ∷ drop 1 (lines_from k bs)
lines_split zero bs h = absurd (omega arith)
lines_split (suc k) bs h = refl
