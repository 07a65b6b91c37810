-- The row that an accepted line makes is its quotient, and the only one; so is the row of a chain.
use Rattle.std.proofs.Common.{◌≡◌, ℕ, ◌+◌, ◌<◌, List, [], ◌∷◌, ◌++◌, map, sym, ◌∙◌, ap₂, arith}
use mathlib.Core.Path.{subst⁻¹}
use Rattle.std.specs.List.{AllByRecursion}
use Rattle.std.proofs.lemmas.Int.{ints}
use Rattle.terms.specs.declared.fault.Cause.TheVariants.{NotDivisible}
use Rattle.terms.specs.Rows.{Row}
use Rattle.law.specs.Calls.{Line}
use Rattle.law.specs.Lines.{cut_checks, divides, division_check, divisor_check, last_made, line_checks, lines_checks, made, summed}
use Rattle.law.specs.Moves.{Chained, Quotient}
use Rattle.law.specs.Moves.Chained.{last_line, next_line}
use Rattle.law.proofs.Clear.{Clear, all_clear, first_passed, line_clear}
use Rattle.law.proofs.Floors.{divided_back, floor_below, floor_down, floor_next, multiples_once}
use Rattle.law.proofs.Follows.{divisor_positive}

-- two quotients of one line are one row
quotient_once : (t : List Row) (l : Line) (q r : Row) → 0 < l.divisor → Quotient t l q → Quotient t l r → q ≡ r
quotient_once t l q r h a b =
    let x = floor_below l.divisor q.right r.right _ h a.down b.no_further in
    let y = floor_below l.divisor r.right q.right _ h b.down a.no_further in
    let right-same : q.right ≡ r.right = omega (arith, ints) in
    ap₂ (λ cs z. record { coefficients = cs; right = z }) (multiples_once l.divisor q.coefficients r.coefficients h (a.exact ∙ sym b.exact)) right-same

module _ (t : List Row) (l : Line) where
  made_quotient : Clear (divisor_check l) → Clear (division_check t l) → Quotient t l (made t l)
  made_quotient e f =
      let s = summed t l.premises in let p = divisor_positive l e in
      record {
        exact = divided_back l.divisor s.coefficients (first_passed NotDivisible 0 (map (divides l.divisor) s.coefficients) f);
        down = floor_down l.divisor s.right p;
        no_further = floor_next l.divisor s.right p;
      }

  pub cut_quotient : AllByRecursion Clear (cut_checks t l) → Quotient t l (made t l)
  cut_quotient f = made_quotient f.1.1.0 f.1.1.1.1.1.0

  pub cut_once : (r : Row) → AllByRecursion Clear (cut_checks t l) → Quotient t l r → made t l ≡ r
  cut_once r f q = quotient_once t l (made t l) r (divisor_positive l f.1.1.0) (cut_quotient f) q

  line_quotient : AllByRecursion Clear (line_checks t l) → Quotient t l (made t l)
  line_quotient f = made_quotient f.1.1.0 f.1.1.1.1.0

  line_once : (r : Row) → AllByRecursion Clear (line_checks t l) → Quotient t l r → made t l ≡ r
  line_once r f q = quotient_once t l (made t l) r (divisor_positive l f.1.1.0) (line_quotient f) q

pub chain_chained : (before : Row) (k : ℕ) (t : List Row) (l : Line) (ls : List Line) → AllByRecursion Clear (lines_checks k t (l ∷ ls)) → Chained t (l ∷ ls) (last_made before t (l ∷ ls))
chain_chained before k t l [] e = last_line (line_quotient t l (all_clear (line_checks t l) (line_clear k _ e.0)))
chain_chained before k t l (m ∷ ls) e =
    next_line (line_quotient t l (all_clear (line_checks t l) (line_clear k _ e.0))) (chain_chained (made t l) (k + 1) (t ++ made t l ∷ []) m ls e.1)

pub chain_once : (before : Row) (k : ℕ) (t : List Row) (ls : List Line) (r : Row) → AllByRecursion Clear (lines_checks k t ls) → Chained t ls r → last_made before t ls ≡ r
chain_once before k t [] r e c = elim c [ ]
chain_once before k t (l ∷ []) r e (last_line d) = line_once t l r (all_clear (line_checks t l) (line_clear k _ e.0)) d
chain_once before k t (l ∷ m ∷ ls) r e (next_line {q = q} d c) =
    let same = line_once t l q (all_clear (line_checks t l) (line_clear k _ e.0)) d in
    chain_once (made t l) (k + 1) (t ++ made t l ∷ []) (m ∷ ls) r e.1 (subst⁻¹ (λ q. Chained (t ++ q ∷ []) (m ∷ ls) r) same c)
