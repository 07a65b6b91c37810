-- Lines that are made one after another over a growing table.
use Rattle.std.proofs.Common.{◌≡◌, ℕ, ◌+◌, ◌-◌, ◌<◌, ◌≤◌, List, [], ◌∷◌, ◌++◌, length, take, Some, None, Ok, Err, Result, MatchResult, IsErrAnd, subst, sym, refl, ap, ◌∙◌, ap₂, arith}
use Rattle.std.proofs.lemmas.List.{length-append, length-map, map-append, take-take, take_all}
use Rattle.terms.specs.declared.fault.Fault.{Fault}
use Rattle.terms.specs.declared.row.Row.{Row as Stored}
use Rattle.terms.specs.Faults.{first_fault}
use Rattle.terms.specs.Rows.{Row}
use Rattle.terms.specs.Stored.{row_of}
use Rattle.terms.proofs.Passed.{pass_list, pass_one, stop_one}
use Rattle.law.specs.Calls.{Line}
use Rattle.law.specs.Lines.{in_line, last_made, line_checks, lines_checks, made, made_checks, no_row, number_checks}
use Rattle.derivation.specs.Sums.{ChainMade, LineAdded, LineMade, Made, table_of}

-- ---- one line
module _ (n : ℕ) (t : List Row) (l : Line) (e : first_fault (number_checks l) ≡ None) where
  pub numbered_made : (row : Stored) → Made n t l row → LineMade n t l row
  numbered_made row m = record { passed = pass_list (number_checks l) (made_checks t l) e ∙ m.passed; is = m.is }

  pub numbered_stopped : (f : Fault) → first_fault (made_checks t l) ≡ Some f → first_fault (line_checks t l) ≡ Some f
  numbered_stopped f s = pass_list (number_checks l) (made_checks t l) e ∙ s

pub line_added : (n : ℕ) (rows next : List Stored) (l : Line) (row : Stored) → next ≡ rows ++ row ∷ [] → LineMade n (table_of n rows) l row → LineAdded n (table_of n rows) (table_of n next) l row
line_added n rows next l row e m =
    record { passed = m.passed; is = m.is; grown = ap (table_of n) e ∙ map-append (row_of n) rows (row ∷ []) ∙ ap (λ r. table_of n rows ++ r ∷ []) m.is }

-- a value that `map_err` lets through
pub ok_through : (P : Stored → Type 0) (R : Fault → Type 0) (Q : Fault → Fault → Type 0) (r m : Result Stored Fault) (row : Stored) → MatchResult r (λ x. m ≡ Ok x) (λ e. IsErrAnd m (Q e)) → m ≡ Ok row → MatchResult r P R → P row
ok_through P R Q (Ok x) m row c w h = let e : x ≡ row = cc in subst P e h
ok_through P R Q (Err f) m row c w h = absurd (subst (λ n. IsErrAnd n (Q f)) w c)

-- ---- one line after another: what is left decides, and makes the last row
pub record Chaining (n : ℕ) (before rows : List Stored) (lines left : List Line) (last : Stored) : Type 0 where
  pub low : length before ≤ length rows
  pub long : length rows + length left ≡ length before + length lines
  pub front : take (length before) rows ≡ before
  pub checks : first_fault (lines_checks (length rows - length before + 1) (table_of n rows) left) ≡ first_fault (lines_checks 1 (table_of n before) lines)
  pub makes : last_made (row_of n last) (table_of n rows) left ≡ last_made no_row (table_of n before) lines

last_any : (a b : Row) (t : List Row) (ls : List Line) → 0 < length ls → last_made a t ls ≡ last_made b t ls
last_any a b t [] h = absurd (omega arith)
last_any a b t (l ∷ ls) h = refl

pub chaining_none : (n : ℕ) (rows : List Stored) (lines : List Line) (last : Stored) → 0 < length lines → Chaining n rows rows lines lines last
chaining_none n rows lines last h =
    let none : length rows - length rows + 1 ≡ 1 = omega arith in
    record {
      low = omega arith;
      long = refl;
      front = take_all (length rows) rows (omega arith);
      checks = ap (λ k. first_fault (lines_checks k (table_of n rows) lines)) none;
      makes = last_any (row_of n last) no_row (table_of n rows) lines h;
    }

module _ (n : ℕ) (before rows : List Stored) (lines left : List Line) (last : Stored) (c : Chaining n before rows lines left last) where
  pub chaining_front : (next : List Stored) → take (length rows) next ≡ rows → take (length before) next ≡ before
  chaining_front next same = sym (take-take (length before) (length rows) next c.low) ∙ ap (take (length before)) same ∙ c.front

  module _ (l : Line) (after : List Line) (is : left ≡ l ∷ after) where
    pub chaining_room : length rows < length before + length lines
    chaining_room = omega (arith, c.long, ap length is)

    pub chaining_stopped : (f : Fault) → in_line (length rows - length before + 1) (first_fault (line_checks (table_of n rows) l)) ≡ Some f → first_fault (lines_checks 1 (table_of n before) lines) ≡ Some f
    chaining_stopped f e =
        sym c.checks ∙ ap (λ ls. first_fault (lines_checks (length rows - length before + 1) (table_of n rows) ls)) is
        ∙ stop_one (in_line (length rows - length before + 1) (first_fault (line_checks (table_of n rows) l))) _ f e

    pub chaining_more : (next : List Stored) (row : Stored) → take (length rows) next ≡ rows → LineAdded n (table_of n rows) (table_of n next) l row → Chaining n before next lines after row
    chaining_more next row same a =
        let more : length next ≡ length rows + 1 =
        sym (length-map next (row_of n)) ∙ ap length a.grown ∙ length-append (table_of n rows) (made (table_of n rows) l ∷ []) ∙ ap (λ k. k + 1) (length-map rows (row_of n)) in
        let low = c.low in
        let number : length next - length before + 1 ≡ length rows - length before + 1 + 1 = omega arith in
        record {
          low = omega arith;
          long = omega (arith, c.long, ap length is);
          front = chaining_front next same;
          checks =
              ap₂ (λ k t. first_fault (lines_checks k t after)) number a.grown
              ∙ sym (pass_one (in_line (length rows - length before + 1) (first_fault (line_checks (table_of n rows) l))) _ (ap (in_line (length rows - length before + 1)) a.passed))
              ∙ sym (ap (λ ls. first_fault (lines_checks (length rows - length before + 1) (table_of n rows) ls)) is) ∙ c.checks;
          makes =
              ap₂ (λ r t. last_made r t after) a.is a.grown
              ∙ sym (ap (last_made (row_of n last) (table_of n rows)) is) ∙ c.makes;
        }

  pub chaining_all : left ≡ [] → ChainMade n (table_of n before) lines last
  chaining_all none =
      record {
        passed = sym c.checks ∙ ap (λ ls. first_fault (lines_checks (length rows - length before + 1) (table_of n rows) ls)) none;
        is = sym (ap (last_made (row_of n last) (table_of n rows)) none) ∙ c.makes;
      }
