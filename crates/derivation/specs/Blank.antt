-- Stored rows that read 0 from a place on.
use Rattle.std.specs.Prelude.{ℕ, Bool, List, map, drop, ℤ, pos}
use Rattle.terms.specs.Integers.{eq_z}
use Rattle.terms.specs.declared.row.Row.{Row as Stored}
use Rattle.theories.specs.Pairs.{every}

abbrev pub blank_from : ℕ → List ℤ → Bool
blank_from n cs = every (map (eq_z (pos 0)) (drop n cs))

abbrev pub rows_blank : ℕ → List Stored → Bool
rows_blank n rows = every (map (λ (r : Stored). blank_from n r.coefficients.items) rows)
