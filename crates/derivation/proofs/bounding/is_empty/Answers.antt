use Rattle.std.proofs.Common.{◌≡◌, ℕ, get_or, pos, refl, ◌∙◌, arith, rules}
use borrow.Author.Tests.{tests}
use Rattle.std.proofs.lemmas.Iterator.{YieldsList-from_range}
use Rattle.std.proofs.lemmas.Iterator.Search.{all_from_yields_List}
use Rattle.std.specs.List.{list_all, range_with_len}
use Rattle.terms.specs.Integers.{eq_z}
use Rattle.terms.specs.Rows.{difference_row}
use Rattle.terms.proofs.ByPlace.{length-difference}
use Rattle.derivation.proofs.EveryPlace.{every_place}
use Rattle.derivation.proofs.bounding.is_empty.Goals as goal

pub returns : goal.returns
returns c =
    let n = c.args.n in let d = c.args.d.now in
    let test : ℕ → _ = λ i. eq_z (pos 0) (get_or (difference_row n d).coefficients i (pos 0)) in
    let e : c.all.result ≡ list_all test (range_with_len 0 n) =
    all_from_yields_List test _ _ c.all.result c.all.ensures.ran (YieldsList-from_range 0 n n refl (omega arith)) (λ x b q k. search (rules, tests)) in
    e ∙ every_place test (eq_z (pos 0)) (difference_row n d).coefficients n (length-difference n d) (λ i. refl)
