-- Checks of which none applies, and tests that all pass.
use Rattle.std.proofs.Common.{◌≡◌, ℕ, ◌+◌, Bool, true, false, List, [], ◌∷◌, ℤ, Some, None, Option, refl, ap, ap₂}
use Rattle.std.specs.List.{AllByRecursion}
use Rattle.std.proofs.lemmas.Bool.{and_from, and_parts, false≢true}
use Rattle.terms.specs.declared.fault.Cause.{Cause}
use Rattle.terms.specs.declared.fault.Fault.{Fault}
use Rattle.terms.specs.Faults.{first_fault, first_unless, unless}
use Rattle.terms.specs.Integers.{eq_z, eq_zs}
use Rattle.terms.proofs.Integers.{eq_z_refl, eq_z_true}
use Rattle.terms.proofs.Passed.{clash}
use Rattle.theories.specs.Pairs.{every}
use Rattle.law.specs.Lines.{in_line}

abbrev pub Clear : Option Fault → Type 0
Clear o = o ≡ None

abbrev pub Yes : Bool → Type 0
Yes b = b ≡ true

-- ---- lists of checks
pub all_clear : (cs : List (Option Fault)) → first_fault cs ≡ None → AllByRecursion Clear cs
all_clear [] e = tt
all_clear (Some f ∷ cs) e = clash (cc)
all_clear (None ∷ cs) e = (refl, all_clear cs e)

pub none_first : (cs : List (Option Fault)) → AllByRecursion Clear cs → first_fault cs ≡ None
none_first [] h = refl
none_first (Some f ∷ cs) h = h.0
none_first (None ∷ cs) h = none_first cs h.1

pub line_clear : (k : ℕ) (o : Option Fault) → in_line k o ≡ None → o ≡ None
line_clear k (Some f) e = clash (cc)
line_clear k None e = refl

-- ---- one check
pub unless_clear : (cause : Cause) (spot : ℕ) {b : Bool} → b ≡ true → unless b cause spot ≡ None
unless_clear cause spot e = ap (λ t. unless t cause spot) e

pub first_passed : (cause : Cause) (spot : ℕ) (bs : List Bool) → first_unless cause spot bs ≡ None → AllByRecursion Yes bs
first_passed cause spot [] e = tt
first_passed cause spot (true ∷ bs) e = (refl, first_passed cause (spot + 1) bs e)
first_passed cause spot (false ∷ bs) e = clash (cc)

pub first_clear : (cause : Cause) (spot : ℕ) (bs : List Bool) → AllByRecursion Yes bs → first_unless cause spot bs ≡ None
first_clear cause spot [] h = refl
first_clear cause spot (true ∷ bs) h = first_clear cause (spot + 1) bs h.1
first_clear cause spot (false ∷ bs) h = absurd (false≢true h.0)

-- ---- tests
pub every_yes : (bs : List Bool) → every bs ≡ true → AllByRecursion Yes bs
every_yes [] e = tt
every_yes (b ∷ bs) e = let h = and_parts b (every bs) e in (h.0, every_yes bs h.1)

pub yes_every : (bs : List Bool) → AllByRecursion Yes bs → every bs ≡ true
yes_every [] h = refl
yes_every (b ∷ bs) h = and_from b (every bs) h.0 (yes_every bs h.1)

pub eq_zs_true : (cs bs : List ℤ) → eq_zs cs bs ≡ true → cs ≡ bs
eq_zs_true [] [] e = refl
eq_zs_true [] (b ∷ bs) e = absurd (false≢true e)
eq_zs_true (a ∷ cs) [] e = absurd (false≢true e)
eq_zs_true (a ∷ cs) (b ∷ bs) e = let h = and_parts (eq_z a b) (eq_zs cs bs) e in ap₂ ◌∷◌ (eq_z_true a b h.0) (eq_zs_true cs bs h.1)

pub eq_zs_refl : (cs : List ℤ) → eq_zs cs cs ≡ true
eq_zs_refl [] = refl
eq_zs_refl (a ∷ cs) = and_from (eq_z a a) (eq_zs cs cs) (eq_z_refl a) (eq_zs_refl cs)
