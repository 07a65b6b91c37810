use Rattle.std.proofs.Common.{◌≡◌, not, [], ◌∷◌, ◌++◌, map, length, Some, option_map, position, sym, ap, ◌∙◌, subst, rules}
use borrow.Author.Tests.{tests}
use Rattle.std.specs.Iterator.Adapters.{once_item, once_steps}
use Rattle.std.specs.Option.{option_to_list}
use Rattle.std.proofs.lemmas.Iterator.{YieldsList, YieldsList-from_slice}
use Rattle.std.proofs.lemmas.Iterator.Consumers.{YieldsList-at, YieldsList-from_chain, YieldsList-from_shown}
use Rattle.std.proofs.lemmas.Iterator.Search.{position_from_yields_List}
use Rattle.terms.specs.declared.fault.Cause.TheVariants.{PlaceNotVariable}
use Rattle.terms.specs.Faults.{answered, fault}
use Rattle.terms.proofs.FirstFault.{first_at}
use Rattle.law.specs.Steps.{both_named}
use Rattle.derivation.proofs.rule.KnownRule.check_named.Goals as goal

-- one item, seen through v
YieldsList-from_one : {A B : Type 0} (v : A → B) {s : _} (x : A) → once_item s ≡ Some x → YieldsList once_steps v s (v x ∷ [])
YieldsList-from_one v {s} x e =
    subst (λ k. YieldsList once_steps v s (map v (option_to_list k))) e
    (YieldsList-from_shown once_steps v (λ u. map v (option_to_list (once_item u))) (λ u t p. ap (λ k. length (map v (option_to_list k))) (sym p.0))
    (λ u y t p. ap (λ k. map v (option_to_list k)) (sym p.0) ∙ ap (λ k. v y ∷ map v (option_to_list k)) (sym p.1)) s)

pub returns : goal.returns
returns c =
    let k = c.args.self.now in let ds = k.premises.items ++ k.conclusion ∷ [] in
    let road = YieldsList-from_chain (YieldsList-at c.chain.ensures.first (YieldsList-from_slice k.premises.items (c.iter.ensures.rest ∙ c.deref.ensures.0))) (YieldsList-from_one (λ d. d.now) _ (ap once_item c.chain.ensures.second ∙ c.once.ensures.item)) c.chain.ensures.first_done c.chain.ensures.second_done in
    let e : c.position.result ≡ position (λ d. not (both_named c.args.n d)) ds = position_from_yields_List (λ d. not (both_named c.args.n d)) _ _ c.position.result c.position.ensures.ran road (λ x b q k. search (rules, tests)) in
    c.need_none.ensures ∙ ap answered (ap (option_map (fault PlaceNotVariable)) e ∙ first_at (both_named c.args.n) PlaceNotVariable ds)
