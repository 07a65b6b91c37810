-- What holds of every two elements of a list.
use Rattle.std.specs.Prelude.{Bool, true, ◌&&◌, List, [], ◌∷◌, map}

abbrev pub every : List Bool → Bool
every [] = true
every (b ∷ bs) = b && every bs

-- each element passes the test together with each later one
abbrev pub every_pair : {A : Type 0} → (A → A → Bool) → List A → Bool
every_pair test [] = true
every_pair test (x ∷ xs) = every (map (test x) xs) && every_pair test xs
