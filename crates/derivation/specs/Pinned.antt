-- The checks of a pin that no theory has a part in.
use Rattle.std.specs.Prelude.{◌≡◌, ℕ, ◌*◌, List, [], ◌∷◌, map, length, take, ℤ, is_some, None, Option, ◌==◌}
use Rattle.terms.specs.declared.fault.Cause.TheVariants.{NotFixed, WrongLength}
use Rattle.terms.specs.declared.fault.Fault.{Fault}
use Rattle.terms.specs.Faults.{first_fault, first_unless, unless}
use Rattle.terms.specs.Rows.{Row}
use Rattle.law.specs.Bounds.{held_from, point}
use Rattle.law.specs.Lines.{places_check}

-- a variable that two places do not hold
abbrev pub fixed_check : ℕ → List Row → List ℕ → Option Fault
fixed_check n t places = first_unless NotFixed 0 (map is_some (held_from n 0 t places))

-- the first checks of pin: the number of places, the places, and that they hold every variable
abbrev pub fixed_checks : ℕ → List Row → List ℕ → List (Option Fault)
fixed_checks n t places =
    unless (length places == 2 * n) WrongLength 0
    ∷ places_check t places
    ∷ fixed_check n t places
    ∷ []

-- every variable is held, and these are the values
pub record Fixes (n : ℕ) (t : List Row) (places : List ℕ) (items : List ℤ) : Type 0 where
  pub passed : fixed_check n t places ≡ None
  pub is : take n items ≡ point n t places

-- none of the checks applies, and these are the values at which the variables are held
pub record Pinned (n : ℕ) (t : List Row) (places : List ℕ) (items : List ℤ) : Type 0 where
  pub passed : first_fault (fixed_checks n t places) ≡ None
  pub is : take n items ≡ point n t places
