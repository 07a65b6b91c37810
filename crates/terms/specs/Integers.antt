-- Equality of whole numbers as a test.
use Rattle.std.specs.Prelude.{Bool, true, false, ◌&&◌, List, [], ◌∷◌, ℤ, pos, negsuc, ◌==◌}

abbrev pub eq_z : ℤ → ℤ → Bool
eq_z (pos a) (pos b) = a == b
eq_z (pos a) (negsuc b) = false
eq_z (negsuc a) (pos b) = false
eq_z (negsuc a) (negsuc b) = a == b

abbrev pub eq_zs : List ℤ → List ℤ → Bool
eq_zs [] [] = true
eq_zs [] (b ∷ bs) = false
eq_zs (a ∷ cs) [] = false
eq_zs (a ∷ cs) (b ∷ bs) = eq_z a b && eq_zs cs bs
