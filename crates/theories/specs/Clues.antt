-- Clues of two bytes.
use Rattle.std.specs.Prelude.{ℕ, List, [], ◌∷◌, Some, None, Option}
use Rattle.theories.specs.declared.parts.Pair.{Pair}

abbrev pub two_bytes : List ℕ → Option Pair
two_bytes [] = None
two_bytes (i ∷ []) = None
two_bytes (i ∷ k ∷ []) = Some (record { one = i; other = k })
two_bytes (i ∷ k ∷ l ∷ ls) = None
