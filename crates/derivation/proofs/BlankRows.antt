-- Rows that read 0 from a place on: one variable more, one row more.
use Rattle.std.proofs.Common.{◌≡◌, ℕ, zero, suc, ◌+◌, ◌-◌, ◌<◌, true, List, [], ◌∷◌, ◌++◌, map, length, get_or, take, drop, replicate, ℤ, pos, neg_ℤ, sym, refl, ap, ◌∙◌, ap₂, arith}
use Rattle.std.proofs.lemmas.List.{drop_more, take_more}
use Rattle.std.proofs.lemmas.Bool.{and_parts, and_from}
use Rattle.terms.specs.declared.row.Row.{Row as Stored}
use Rattle.terms.specs.Integers.{eq_z}
use Rattle.terms.specs.Rows.{negated}
use Rattle.terms.specs.Stored.{padded, row_of}
use Rattle.terms.proofs.Integers.{eq_z_true}
use Rattle.theories.specs.Pairs.{every}
use Rattle.law.specs.Jobs.{widened}
use Rattle.derivation.specs.Blank.{blank_from, rows_blank}

blank_parts : (n : ℕ) (cs : List ℤ) → n < length cs → blank_from n cs ≡ true → (get_or cs n (pos 0) ≡ pos 0) × (blank_from (n + 1) cs ≡ true)
blank_parts n cs h e =
    let p = and_parts (eq_z (pos 0) (get_or cs n (pos 0))) (blank_from (n + 1) cs) (sym (ap (λ ds. every (map (eq_z (pos 0)) ds)) (drop_more cs n (pos 0) h)) ∙ e) in
    (sym (eq_z_true (pos 0) (get_or cs n (pos 0)) p.0), p.1)

row-widened : (n : ℕ) (r : Stored) → n < 16 → blank_from n r.coefficients.items ≡ true → row_of (n + 1) r ≡ widened (row_of n r)
row-widened n r h e =
    let l : n < length r.coefficients.items = omega (arith, r.coefficients.long) in
    ap (λ cs. record { coefficients = cs; right = r.right })
    (take_more r.coefficients.items n (pos 0) l ∙ ap (λ z. take n r.coefficients.items ++ z ∷ []) (blank_parts n r.coefficients.items l e).0)

pub rows_widened : (n : ℕ) (rows : List Stored) → n < 16 → rows_blank n rows ≡ true → map (row_of (n + 1)) rows ≡ map widened (map (row_of n) rows)
rows_widened n [] h e = refl
rows_widened n (r ∷ rows) h e =
    let p = and_parts (blank_from n r.coefficients.items) (rows_blank n rows) e in
    ap₂ ◌∷◌ (row-widened n r h p.0) (rows_widened n rows h p.1)

pub rows_blank_more : (n : ℕ) (rows : List Stored) → n < 16 → rows_blank n rows ≡ true → rows_blank (n + 1) rows ≡ true
rows_blank_more n [] h e = refl
rows_blank_more n (r ∷ rows) h e =
    let p = and_parts (blank_from n r.coefficients.items) (rows_blank n rows) e in
    let l : n < length r.coefficients.items = omega (arith, r.coefficients.long) in
    and_from (blank_from (n + 1) r.coefficients.items) (rows_blank (n + 1) rows) (blank_parts n r.coefficients.items l p.0).1 (rows_blank_more n rows h p.1)

pub rows_blank_joined : (n : ℕ) (rows : List Stored) (r : Stored) → blank_from n r.coefficients.items ≡ true → rows_blank n rows ≡ true → rows_blank n (rows ++ r ∷ []) ≡ true
rows_blank_joined n [] r h e = and_from (blank_from n r.coefficients.items) true h refl
rows_blank_joined n (q ∷ rows) r h e =
    let p = and_parts (blank_from n q.coefficients.items) (rows_blank n rows) e in
    and_from (blank_from n q.coefficients.items) (rows_blank n (rows ++ r ∷ [])) p.0 (rows_blank_joined n rows r h p.1)

-- a list padded with zeros is blank from its end on, also with all signs turned
zeros_blank : (k n : ℕ) → every (map (eq_z (pos 0)) (drop n (replicate k (pos 0)))) ≡ true
zeros_blank zero zero = refl
zeros_blank zero (suc n) = refl
zeros_blank (suc k) zero = zeros_blank k 0
zeros_blank (suc k) (suc n) = zeros_blank k n

pub padded_blank : (cs : List ℤ) → blank_from (length cs) (padded cs) ≡ true
padded_blank cs = go cs (replicate (16 - length cs) (pos 0)) (zeros_blank (16 - length cs) 0)
  where
    go : (cs zs : List ℤ) → every (map (eq_z (pos 0)) zs) ≡ true → every (map (eq_z (pos 0)) (drop (length cs) (cs ++ zs))) ≡ true
    go [] zs e = e
    go (c ∷ cs) zs e = go cs zs e

pub negated_blank : (n : ℕ) (cs : List ℤ) → blank_from n cs ≡ true → blank_from n (negated cs) ≡ true
negated_blank zero [] e = refl
negated_blank (suc n) [] e = refl
negated_blank (suc n) (c ∷ cs) e = negated_blank n cs e
negated_blank zero (c ∷ cs) e =
    let p = and_parts (eq_z (pos 0) c) (blank_from 0 cs) e in
    let z = eq_z_true (pos 0) c p.0 in
    and_from (eq_z (pos 0) (neg_ℤ c)) (blank_from 0 (negated cs)) (ap (λ x. eq_z (pos 0) (neg_ℤ x)) (sym z)) (negated_blank 0 cs p.1)
