use borrow.Author.Tests.{tests}
use Rattle.std.proofs.Common.{◌≡◌, ℕ, ◌<◌, List, length, get_or, ℤ, pos, ◌-ℤ◌, neg_ℤ, sym, ◌∙◌, arith, w32, SFits, to_z, of_z, rules}
use mathlib.Core.Path.{subst⁻¹}
use Rattle.std.proofs.lemmas.Int.{ints}
use Rattle.std.proofs.lemmas.List.{ext_get_or, length-map}
use Rattle.terms.specs.Rows.{negated}
use Rattle.terms.proofs.ByPlace.{at_negated}
use Rattle.terms.proofs.Made.{made_at}
use Rattle.terms.proofs.SmallLists.{Small, negated_small}
use Rattle.terms.proofs.row.Coefficients.negated.Goals as goal

turned_is : (z : ℤ) → SFits w32 z → SFits w32 (neg_ℤ z) → to_z w32 (of_z w32 (pos 0 -ℤ to_z w32 (of_z w32 z))) ≡ neg_ℤ z
turned_is z f g = omega (arith, ints)

called : (xs : List ℤ) → Small xs → (i : ℕ) (P : Type 0) (y : ℤ) → P × (y ≡ to_z w32 (of_z w32 (pos 0 -ℤ to_z w32 (of_z w32 (get_or xs i (pos 0)))))) → P × (y ≡ neg_ℤ (get_or xs i (pos 0)))
called xs s i P y e = let n = s i in (e.0, e.1 ∙ turned_is (get_or xs i (pos 0)) (omega (arith, ints)) (omega (arith, ints)))

all_turned : (items xs : List ℤ) → length items ≡ 16 → length xs ≡ 16 → ((k : ℕ) → k < 16 → get_or items k (pos 0) ≡ neg_ℤ (get_or xs k (pos 0))) → items ≡ negated xs
all_turned items xs m l e = ext_get_or (pos 0) items (negated xs) (m ∙ sym l ∙ sym (length-map xs neg_ℤ)) (λ k h. e k (omega arith) ∙ sym (at_negated xs k))

pub returns : goal.returns
returns c =
    let xs = c.args.self.now.items in
    all_turned c.from_fn.result xs c.from_fn.ensures.items.long c.args.self.now.long (made_at _ _ _ (λ k. neg_ℤ (get_or xs k (pos 0))) (pos 0) (λ i y q k. called xs c.args.self.now.small i (q ≡ record { 0 = c.args.self }) y (search (rules, tests))) 16 c.from_fn.ensures.items)

pub invariant_of-result : goal.invariant_of-result
invariant_of-result c =
    let xs = c.args.self.now.items in
    let e = all_turned c.from_fn.result xs c.from_fn.ensures.items.long c.args.self.now.long (made_at _ _ _ (λ k. neg_ℤ (get_or xs k (pos 0))) (pos 0) (λ i y q k. called xs c.args.self.now.small i (q ≡ record { 0 = c.args.self }) y (search (rules, tests))) 16 c.from_fn.ensures.items) in
    record { long = c.from_fn.ensures.items.long; small = subst⁻¹ Small e (negated_small xs c.args.self.now.small) }
