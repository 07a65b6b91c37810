-- Arrays that are made place by place, by calls that leave the closure as it was.
use Rattle.std.proofs.Common.{◌≡◌, ℕ, zero, suc, ◌+◌, ◌<◌, ◌≤◌, List, get_or, refl, ap, ◌∙◌, subst, sym, ⊎_elim, arith}
use Rattle.std.proofs.lemmas.Bool.{cases_lt}
use Rattle.std.specs.Array.{IsFromFnResult, IsFromFnResultFrom}
use denote.Param.Members.{Mut, Called}

module _ {F B : Type 0} (g : Mut F (ℕ × Unit {0}) B) (f : F) (ys : List B) (h : ℕ → B) (d : B) (gives : (i : ℕ) (y : B) (q : F) → Called g f (i, tt) y q → (q ≡ f) × (y ≡ h i)) where
  from : (n i : ℕ) (q : F) → q ≡ f → IsFromFnResultFrom g q ys i n → (k : ℕ) → i ≤ k → k < i + n → get_or ys k d ≡ h k
  from zero i q e r k l m = absurd (omega arith)
  from (suc n) i q e r k l m =
      let s = subst (λ p. IsFromFnResultFrom g p ys i (suc n)) e r in
      let t = gives i s.1 s.0 s.3 in
      ⊎_elim
      (λ (b : i < k). from n (i + 1) s.0 t.0 s.4 k (omega arith) (omega arith))
      (λ (b : k ≤ i).
      let same : k ≡ i = omega arith in
      ap (λ j. get_or ys j d) same ∙ s.2.1 d ∙ t.1 ∙ ap h (sym same))
      (cases_lt i k)

  -- what is made at a place
  pub made_at : (n : ℕ) → IsFromFnResult g f ys n → (k : ℕ) → k < n → get_or ys k d ≡ h k
  made_at n r k l = from n 0 f refl r.each k (omega arith) (omega arith)
