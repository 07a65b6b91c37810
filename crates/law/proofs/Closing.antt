-- What closing says, when, and that it is so.
use Rattle.std.proofs.Common.{◌≡◌, ℕ, List, [], ◌∷◌, ℤ, ◌≤ℤ◌, Some, None, Option, sym, refl, ap, ◌∙◌, subst}
use Rattle.std.proofs.lemmas.Int.{by_lt_z}
use Rattle.terms.specs.Rows.{Plan}
use Rattle.terms.proofs.Passed.{clash}
use Rattle.theories.specs.Meaning.{Meaning}
use Rattle.law.specs.Jobs.{Job, Model, cost}
use Rattle.law.specs.Pile.{Subproblem, closed, moment}
use Rattle.law.specs.Pile.Verdict.{least, unfinished}
use Rattle.law.specs.Law.{Closes, Kept}

module _ (j : Job) (th : Meaning (List ℕ)) where
  least_paid : (y z : Plan) (c : ℤ) → Kept j th (moment [] (Some z)) → least z (cost j z) ≡ least y c → (x : Plan) → Model j th x → c ≤ℤ cost j x
  least_paid y z c k e x m =
      let paid : cost j z ≡ c = cc in
      subst (λ p. p ≤ℤ cost j x) paid (by_lt_z (cost j x) (cost j z) (λ h. absurd (k.still_open x m h)) (λ h. h))

  pub closes : (pile : List Subproblem) (taken : Option Plan) → Kept j th (moment pile taken) → Closes j th (moment pile taken) (closed j pile taken)
  closes [] None k = record {
    least_when = λ y c. (λ e. clash (cc), λ h. let p = h.1 in clash (cc));
    least_then = λ y c e. clash (cc);
    none_when = (λ e. (refl, refl), λ h. refl);
    none_then = λ e x m. k.still_open x m tt;
    unfinished_when = λ o. (λ e. clash (cc), λ h. absurd (h.0 refl));
  }
  closes [] (Some z) k = record {
    least_when = λ y c. (
      λ e. let same : z ≡ y = cc in let paid : cost j z ≡ c = cc in (refl, ap Some same, sym paid ∙ ap (cost j) same),
      λ h. let same : z ≡ y = let p = h.1 in cc in let paid = h.2 in let q = ap (cost j) same in cc,
    );
    least_then = λ y c e. least_paid y z c k e;
    none_when = (λ e. clash (cc), λ h. let p = h.1 in clash (cc));
    none_then = λ e. clash (cc);
    unfinished_when = λ o. (λ e. clash (cc), λ h. absurd (h.0 refl));
  }
  closes (t ∷ rest) taken k = record {
    least_when = λ y c. (λ e. clash (cc), λ h. let p = h.0 in clash (cc));
    least_then = λ y c e. clash (cc);
    none_when = (λ e. clash (cc), λ h. let p = h.0 in clash (cc));
    none_then = λ e. clash (cc);
    unfinished_when = λ o. (λ e. let same : taken ≡ o = cc in (λ h. clash (cc), same), λ h. ap unfinished h.1);
  }
