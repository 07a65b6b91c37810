-- The row that a line of premises makes of a table, and the checks of a cut and of a chain.
use Rattle.std.specs.Prelude.{ℕ, ◌+◌, Bool, ◌&&◌, List, [], ◌∷◌, ◌++◌, map, length, ℤ, pos, ◌+ℤ◌, ◌*ℤ◌, Some, None, Option, nat_le, nat_lt, slice_index_or}
use Rattle.std.specs.Int.{int_div_euclid}
use Rattle.terms.specs.declared.fault.Cause.TheVariants.{Full, NoSuchPlace, NotDivisible, OutOfRange, RowTooLarge, WrongLength}
use Rattle.terms.specs.declared.fault.Fault.{Fault}
use Rattle.terms.specs.Faults.{first_fault, first_unless, unless}
use Rattle.terms.specs.Integers.{eq_z}
use Rattle.terms.specs.Limits.{million, right_limit, within}
use Rattle.terms.specs.Rows.{Row, plus}
use Rattle.law.specs.Calls.{Line}
use Rattle.law.specs.declared.premise.Premise.{Premise}

-- no coefficients, and 0 on the right: every plan meets it
abbrev pub no_row : Row
no_row = record { coefficients = []; right = pos 0 }

-- the row at a place of a table
abbrev pub row_at : List Row → ℕ → Row
row_at t place = slice_index_or t place no_row

abbrev pub times : ℤ → List ℤ → List ℤ
times k cs = map (λ c. k *ℤ c) cs

-- a whole number divided, and rounded down
abbrev pub floor : ℤ → ℕ → ℤ
floor z divisor = int_div_euclid z (pos divisor)

-- the rows times their multipliers, added
abbrev pub summed : List Row → List Premise → Row
summed t [] = no_row
summed t (p ∷ ps) = let r = row_at t p.place in let rest = summed t ps in
    record { coefficients = plus (times (pos p.multiplier) r.coefficients) rest.coefficients; right = pos p.multiplier *ℤ r.right +ℤ rest.right }

-- the sum, divided and rounded down
abbrev pub made : List Row → Line → Row
made t l = let s = summed t l.premises in
    record { coefficients = map (λ c. floor c l.divisor) s.coefficients; right = floor s.right l.divisor }

-- ---- checks of one line
abbrev pub between : ℕ → ℕ → ℕ → Bool
between low high n = nat_le low n && nat_le n high

-- the divisor comes after the multipliers
abbrev pub divisor_check : Line → Option Fault
divisor_check l = unless (between 1 million l.divisor) OutOfRange (length l.premises)

-- the number of premises, their multipliers, and the divisor
abbrev pub number_checks : Line → List (Option Fault)
number_checks l =
    unless (between 1 32 (length l.premises)) WrongLength 0
    ∷ first_unless OutOfRange 0 (map (λ p. between 1 10000 p.multiplier) l.premises)
    ∷ divisor_check l
    ∷ []

-- each place is one of the table's
abbrev pub places_check : List Row → List ℕ → Option Fault
places_check t places = first_unless NoSuchPlace 0 (map (λ p. nat_lt p (length t)) places)

-- a coefficient is divided without remainder
abbrev pub divides : ℕ → ℤ → Bool
divides divisor c = eq_z (pos divisor *ℤ floor c divisor) c

abbrev pub division_check : List Row → Line → Option Fault
division_check t l = first_unless NotDivisible 0 (map (divides l.divisor) (summed t l.premises).coefficients)

-- the places, the division, and the limits of the row made: its coefficients, then its right side
abbrev pub made_checks : List Row → Line → List (Option Fault)
made_checks t l =
    places_check t (map (λ p. p.place) l.premises)
    ∷ division_check t l
    ∷ first_unless RowTooLarge 0 (map (within million) (made t l).coefficients)
    ∷ unless (within right_limit (made t l).right) RowTooLarge 16
    ∷ []

abbrev pub line_checks : List Row → Line → List (Option Fault)
line_checks t l = number_checks l ++ made_checks t l

-- ---- cut
-- a table has at most 512 rows, these many more among them
abbrev pub room_check : List Row → ℕ → Option Fault
room_check t more = unless (nat_le (length t + more) 512) Full 0

abbrev pub cut_checks : List Row → Line → List (Option Fault)
cut_checks t l = number_checks l ++ room_check t 1 ∷ made_checks t l

-- ---- chain
abbrev pub in_line : ℕ → Option Fault → Option Fault
in_line k None = None
in_line k (Some f) = Some (record { cause = f.cause; spot = f.spot; line = k })

-- line by line, from line k; what a line makes is a row for the lines after it
abbrev pub lines_checks : ℕ → List Row → List Line → List (Option Fault)
lines_checks k t [] = []
lines_checks k t (l ∷ ls) = in_line k (first_fault (line_checks t l)) ∷ lines_checks (k + 1) (t ++ made t l ∷ []) ls

abbrev pub chain_checks : List Row → List Line → List (Option Fault)
chain_checks t ls = unless (between 1 8 (length ls)) WrongLength 0 ∷ room_check t (length ls) ∷ lines_checks 1 t ls

-- what the last line makes, or `before` where there is no line
abbrev pub last_made : Row → List Row → List Line → Row
last_made before t [] = before
last_made before t (l ∷ ls) = last_made (made t l) (t ++ made t l ∷ []) ls
