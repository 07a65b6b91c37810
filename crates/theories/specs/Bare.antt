-- The bare theory.
use Rattle.std.specs.Prelude.{ℕ, true, List, [], ◌∷◌, Some, None, Option}
use Rattle.theories.specs.Meaning.{Meaning}

-- every plan is admitted, and the one clue, of no bytes, has no rule
abbrev pub bare : Meaning (Unit {0})
bare = record { admits = λ x. true; rule = λ clue. None }

abbrev pub no_bytes : List ℕ → Option (Unit {0})
no_bytes [] = Some tt
no_bytes (b ∷ bs) = None
