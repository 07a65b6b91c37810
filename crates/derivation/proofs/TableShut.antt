-- A table whose current subproblem is shut: the newest height leaves, and its subproblem becomes the table.
use Rattle.std.proofs.Common.{◌≡◌, ℕ, ◌<◌, true, cond, List, [], ◌∷◌, ◌++◌, map, length, get_or, take, pos, ◌-ℤ◌, neg_ℤ, Some, None, Option, sym, ap, ◌∙◌, ap₂, arith}
use lib.Signed.{lt_z}
use Rattle.std.proofs.lemmas.List.{get_or-map, length-append, length-take-le, map-append, take-append-le, take-map, take-take}
use Rattle.std.proofs.lemmas.Int.{ints}
use Rattle.std.proofs.lemmas.Bool.{cond-true}
use Rattle.terms.specs.declared.row.Row.{Row as Stored}
use Rattle.terms.specs.Limits.{right_limit, within}
use Rattle.terms.specs.Rows.{Row, opposite}
use Rattle.terms.specs.Stored.{row_of, whole, wholes}
use Rattle.terms.proofs.Integers.{within_from}
use Rattle.terms.proofs.Passed.{clash}
use Rattle.law.specs.Lines.{no_row, row_at}
use Rattle.law.specs.Table.{waiting}
use Rattle.derivation.specs.declared.table.Table.{Table}
use Rattle.derivation.specs.Stacked.{heights_of, rights_of, stacked}
use Rattle.derivation.proofs.Stacks.{stacked_given, stacked_higher, stacked_joined, stacked_left, stacked_parts}

-- ---- the opposite of a row
opposite_fits : (r : Stored) → lt_z r.right (pos right_limit) ≡ true → within right_limit (neg_ℤ r.right -ℤ pos 1) ≡ true
opposite_fits r e = let n = r.near in within_from right_limit (neg_ℤ r.right -ℤ pos 1) (omega (arith, ints))

front_opposite : (n : ℕ) (r s : Stored) → whole s ≡ opposite (whole r) → row_of n s ≡ opposite (row_of n r)
front_opposite n r s e =
    ap (λ (w : Row). record { coefficients = take n w.coefficients; right = w.right }) e
    ∙ ap (λ cs. record { coefficients = cs; right = neg_ℤ r.right -ℤ pos 1 }) (take-map neg_ℤ n r.coefficients.items)

-- the row at a place of the table
pub row_at_lem : (n : ℕ) (rows : List Stored) (h : ℕ) (d : Stored) → h < length rows → row_at (map (row_of n) rows) h ≡ row_of n (get_or rows h d)
row_at_lem n rows h d l = get_or-map (row_of n) rows h d no_row l

module _ (o : Table) (height : ℕ) (older : List ℕ) (waits : heights_of o.waiting ≡ height ∷ older) (row : Stored) (there : row ≡ get_or o.rows.items height row) where
  abbrev rows : List Stored
  rows = o.rows.items

  parts : (height < length rows) × (lt_z (get_or (rights_of rows) height (pos 0)) (pos right_limit) ≡ true) × (stacked o.given (rights_of rows) height older ≡ true)
  parts = stacked_parts o.given (rights_of rows) (length rows) height older (sym (ap (stacked o.given (rights_of rows) (length rows)) waits) ∙ o.stack)

  pub within_table : height < length rows
  within_table = parts.0

  limited : within right_limit (neg_ℤ row.right -ℤ pos 1) ≡ true
  limited = opposite_fits row (ap (λ (r : Stored). lt_z r.right (pos right_limit)) there ∙ sym (ap (λ z. lt_z z (pos right_limit)) (get_or-map (λ (r : Stored). r.right) rows height row (pos 0) within_table)) ∙ parts.1)

  turned_to : (s : Option Stored) → wholes s ≡ cond (within right_limit (neg_ℤ row.right -ℤ pos 1)) (Some (opposite (whole row))) None → wholes s ≡ Some (opposite (whole row))
  turned_to s e = e ∙ cond-true (within right_limit (neg_ℤ row.right -ℤ pos 1)) _ _ limited

  pub has_opposite : (s : Option Stored) → s ≡ None → wholes s ≡ cond (within right_limit (neg_ℤ row.right -ℤ pos 1)) (Some (opposite (whole row))) None → ⊥
  has_opposite s n e = let f = sym (ap wholes n) ∙ turned_to s e in clash (cc)

  module _ (s : Stored) (e : wholes (Some s) ≡ cond (within right_limit (neg_ℤ row.right -ℤ pos 1)) (Some (opposite (whole row))) None) where
    abbrev left : List Stored
    left = take height rows ++ s ∷ []

    whole_is : whole s ≡ opposite (whole row)
    whole_is = let f = turned_to (Some s) e in cc

    front_long : length (take height rows) ≡ height
    front_long = let l = within_table in length-take-le height rows (omega arith)

    pub stack_kept : stacked o.given (rights_of left) (length left) older ≡ true
    stack_kept =
        stacked_higher o.given (rights_of left) height (length left) older (omega (arith, front_long, length-append (take height rows) (s ∷ [])))
        (stacked_joined o.given (take height rows) older height s (omega (arith, front_long)) (stacked_left o.given rows older height parts.2))

    pub given_kept : map (row_of o.size) (take o.given left) ≡ map (row_of o.size) (take o.given rows)
    given_kept =
        let g = stacked_given o.given (rights_of rows) height older parts.2 in
        ap (map (row_of o.size)) (take-append-le o.given (take height rows) (s ∷ []) (omega (arith, front_long)) ∙ take-take o.given height rows g)

    pub table_is : map (row_of o.size) left ≡ waiting (map (row_of o.size) rows) height
    table_is =
        map-append (row_of o.size) (take height rows) (s ∷ [])
        ∙ ap₂ (λ rs r. rs ++ r ∷ []) (sym (take-map (row_of o.size) height rows))
        (front_opposite o.size row s whole_is ∙ ap opposite (ap (row_of o.size) there ∙ sym (row_at_lem o.size rows height row within_table)))
