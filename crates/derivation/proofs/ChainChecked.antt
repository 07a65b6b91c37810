-- The checks of a chain, one after another, by the number of its lines.
use Rattle.std.proofs.Common.{◌≡◌, ℕ, ◌+◌, ◌≤◌, leb, List, ◌∷◌, length, Some, None, sym, ap, ◌∙◌, ap₂}
use Rattle.std.proofs.lemmas.Bool.{and_parts, leb-true}
use Rattle.terms.specs.declared.fault.Cause.TheVariants.{Full, WrongLength}
use Rattle.terms.specs.declared.fault.Fault.{Fault}
use Rattle.terms.specs.declared.row.Row.{Row as Stored}
use Rattle.terms.specs.Faults.{first_fault, unless}
use Rattle.terms.specs.Rows.{Row}
use Rattle.terms.proofs.Passed.{pass_one, stop_one, unless_passed}
use Rattle.law.specs.Calls.{Line}
use Rattle.law.specs.Lines.{between, chain_checks, last_made, lines_checks, no_row, room_check}
use Rattle.derivation.specs.Joining.{Makes}
use Rattle.derivation.specs.Sums.{ChainMade}

-- the number of lines is 1 to 8
pub some_lines : (k : ℕ) → unless (between 1 8 k) WrongLength 0 ≡ None → (1 ≤ k) × (k ≤ 8)
some_lines k h = let p = and_parts (leb 1 k) (leb k 8) (unless_passed (between 1 8 k) WrongLength 0 h) in (leb-true 1 k p.0, leb-true k 8 p.1)

module _ (t : List Row) (ls : List Line) (n k : ℕ) (high : n ≡ length t) (long : length ls ≡ k) where
  pub count_stopped : (f : Fault) → unless (between 1 8 k) WrongLength 0 ≡ Some f → first_fault (chain_checks t ls) ≡ Some f
  count_stopped f e = stop_one (unless (between 1 8 (length ls)) WrongLength 0) _ f (ap (λ m. unless (between 1 8 m) WrongLength 0) long ∙ e)

  room_as : room_check t (length ls) ≡ unless (leb (n + k) 512) Full 0
  room_as = ap₂ (λ a b. unless (leb (a + b) 512) Full 0) (sym high) long

  module _ (e : unless (between 1 8 k) WrongLength 0 ≡ None) where
    counted : first_fault (chain_checks t ls) ≡ first_fault (room_check t (length ls) ∷ lines_checks 1 t ls)
    counted = pass_one (unless (between 1 8 (length ls)) WrongLength 0) _ (ap (λ m. unless (between 1 8 m) WrongLength 0) long ∙ e)

    pub room_stopped : (f : Fault) → unless (leb (n + k) 512) Full 0 ≡ Some f → first_fault (chain_checks t ls) ≡ Some f
    room_stopped f h = counted ∙ stop_one (room_check t (length ls)) _ f (room_as ∙ h)

    module _ (h : unless (leb (n + k) 512) Full 0 ≡ None) where
      ready : first_fault (chain_checks t ls) ≡ first_fault (lines_checks 1 t ls)
      ready = counted ∙ pass_one (room_check t (length ls)) _ (room_as ∙ h)

      pub lines_made : (size : ℕ) (row : Stored) → ChainMade size t ls row → Makes size (chain_checks t ls) (last_made no_row t ls) row
      lines_made size row m = record { passed = ready ∙ m.passed; is = m.is }

      pub lines_stopped : (f : Fault) → first_fault (lines_checks 1 t ls) ≡ Some f → first_fault (chain_checks t ls) ≡ Some f
      lines_stopped f s = ready ∙ s
