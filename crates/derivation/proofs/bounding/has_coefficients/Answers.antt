use Rattle.std.proofs.Common.{◌≡◌, get_or, take, map, pos, refl, sym, ap, ◌∙◌, arith, rules}
use borrow.Author.Tests.{tests}
use Rattle.std.proofs.lemmas.Iterator.{YieldsList-from_map, YieldsList-from_range, YieldsList-from_slice, YieldsList-from_take}
use Rattle.std.proofs.lemmas.Iterator.Consumers.{YieldsList-from_copied}
use Rattle.std.proofs.lemmas.List.FromFn.{fill_by_all}
use Rattle.std.specs.Iterator.Adapters.{map_callee, map_source}
use Rattle.std.specs.List.{range_with_len}
use Rattle.terms.specs.Integers.{eq_zs}
use Rattle.terms.specs.Rows.{difference_row}
use Rattle.terms.proofs.ByPlace.{length-difference}
use Rattle.derivation.proofs.SameItems.{same_items}
use Rattle.derivation.proofs.bounding.has_coefficients.Goals as goal

pub returns : goal.returns
returns c =
    let n = c.args.n in let d = c.args.d.now in let items = c.args.row.now.coefficients.items in
    let ds = (difference_row n d).coefficients in
    let are : ds ≡ map (λ k. get_or ds k (pos 0)) (range_with_len 0 n) = fill_by_all (λ k. get_or ds k (pos 0)) ds n (pos 0) (length-difference n d) (λ k h. refl) in
    let e : c.eq.result ≡ eq_zs (take n items) (map (λ k. get_or ds k (pos 0)) (range_with_len 0 n)) =
    same_items (λ x y. y ≡ x) c.map.result c.eq.result c.eq.ensures.ran (YieldsList-from_copied (YieldsList-from_take n (YieldsList-from_slice items cc) cc))
    (λ it b. YieldsList-from_map _ (λ k. get_or ds k (pos 0)) (YieldsList-from_range 0 n n (ap map_source b ∙ c.map.ensures.source) (omega arith)) (ap map_callee b ∙ c.map.ensures.closure) (λ x r q k. search (rules, tests))) in
    e ∙ ap (eq_zs (take n items)) (sym are)
