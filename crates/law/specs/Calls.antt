-- The calls that an open proof takes.
use Rattle.std.specs.Prelude.{ℕ, List}
use Rattle.terms.specs.Rows.{Plan, Row}
use Rattle.law.specs.declared.premise.Premise.{Premise}

-- premises that are summed, and what the sum is divided by
pub record Line : Type 0 where
  pub premises : List Premise
  pub divisor : ℕ

-- infer has a clue and a place for each premise of its rule; pin has two places for each variable
pub data Call : Type 0 where
  branch : Row → Call
  cut : Line → Call
  chain : List Line → Call
  infer : List ℕ → List ℕ → Call
  cutoff : Call
  take : Plan → Call
  drop : ℕ → Call
  pin : List ℕ → Call
