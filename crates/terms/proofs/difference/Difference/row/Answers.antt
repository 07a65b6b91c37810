use borrow.Author.Tests.{tests}
use Rattle.std.proofs.Common.{◌≡◌, ℕ, ◌<◌, ◌≤◌, List, length, get_or, ℤ, pos, nat_abs, Some, sym, ap, ◌∙◌, ap₂, arith, w64, SFits, rules}
use Rattle.std.proofs.lemmas.Int.{to_z-of_z}
use Rattle.std.proofs.lemmas.Bool.{cond-true}
use Rattle.terms.specs.Limits.{right_limit, within}
use Rattle.terms.specs.Rows.{difference_row}
use Rattle.terms.specs.Stored.{padded}
use Rattle.terms.proofs.ByPlace.{difference_near, length-difference, same_padded, at_padded}
use Rattle.terms.proofs.Made.{made_at}
use Rattle.terms.proofs.difference.Difference.row.Goals as goal

items_are : (n : ℕ) (items xs : List ℤ) → length items ≡ 16 → length xs ≡ n → n ≤ 16 → ((k : ℕ) → k < 16 → get_or items k (pos 0) ≡ get_or xs k (pos 0)) → items ≡ padded xs
items_are n items xs l m s e = same_padded xs items l (omega arith) (λ k g. e k (omega arith))

pub invariant_of-result : goal.invariant_of-result
invariant_of-result c =
    let d = c.args.self.now in let n = c.min-size.result in
    let at : (k : ℕ) → k < 16 → get_or c.from_fn-items.result k (pos 0) ≡ get_or (difference_row n d).coefficients k (pos 0) = made_at _ _ _ (λ k. get_or (difference_row n d).coefficients k (pos 0)) (pos 0) (λ i y q k. search (rules, tests)) 16 c.from_fn-items.ensures.items in
    let e = items_are n c.from_fn-items.result (difference_row n d).coefficients c.from_fn-items.ensures.items.long (length-difference n d) (omega (arith, c.min-size.ensures)) at in
    let small : (k : ℕ) → nat_abs (get_or c.from_fn-items.result k (pos 0)) ≤ 1000000 = λ k. let near = difference_near n d k in let is = ap (λ xs. get_or xs k (pos 0)) e ∙ at_padded (difference_row n d).coefficients k in rw is (omega arith) in
    record { long = c.from_fn-items.ensures.items.long; small = small }

pub returns : goal.returns
returns c =
    let d = c.args.self.now in let n = c.min-size.result in
    let at : (k : ℕ) → k < 16 → get_or c.from_fn-items.result k (pos 0) ≡ get_or (difference_row n d).coefficients k (pos 0) = made_at _ _ _ (λ k. get_or (difference_row n d).coefficients k (pos 0)) (pos 0) (λ i y q k. search (rules, tests)) 16 c.from_fn-items.ensures.items in
    let f : SFits w64 d.most = search rules in
    let e = items_are n c.from_fn-items.result (difference_row n d).coefficients c.from_fn-items.ensures.items.long (length-difference n d) (omega (arith, c.min-size.ensures)) at in
    let s = ap (λ n. padded (difference_row n d).coefficients) c.min-size.ensures in
    ap₂ (λ cs z. Some (record { coefficients = cs; right = z })) (e ∙ s) (to_z-of_z w64 d.most f)
    ∙ sym (cond-true _ _ _ (sym (ap (within right_limit) (to_z-of_z w64 d.most f)) ∙ sym c.is_right.ensures ∙ c.if-not-is_right.false))
