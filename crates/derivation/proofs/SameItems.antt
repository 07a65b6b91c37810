-- `eq` of two iterators compares their lists.
use Rattle.std.proofs.Common.{◌≡◌, Bool, true, false, ◌&&◌, List, [], ◌∷◌, ℤ, Some, None, Option, sym, refl, subst, ap, ◌∙◌, ap₂}
use Rattle.std.specs.Bool.{Decides}
use Rattle.std.specs.Iterator.{AlwaysYields, ComparesItemsByEq, YieldsThen}
use Rattle.std.specs.List.{AllZip}
use Rattle.std.specs.Option.{IfSome, MatchOption}
use Rattle.std.specs.Ordering.{int_eq}
use Rattle.std.proofs.lemmas.Bool.Decides.{Decides-int_eq}
use Rattle.std.proofs.lemmas.Iterator.{YieldsList}
use Rattle.terms.specs.Integers.{eq_z, eq_zs}
use Rattle.terms.proofs.Integers.{eq_z_same, eq_z_true}
use Rattle.terms.proofs.Passed.{clash}

equal_is : (x y : ℤ) → int_eq x y ≡ eq_z x y
equal_is x y = go (int_eq x y) (eq_z x y) (Decides-int_eq x y) refl
  where
    go : (b c : Bool) → Decides b (x ≡ y) → eq_z x y ≡ c → b ≡ c
    go true true d e = refl
    go true false d e = let same = eq_z_same x y (d.0 refl) in clash (cc)
    go false true d e = d.1 (eq_z_true x y e)
    go false false d e = refl

module _ {S T : Type 0} (steps : S → Option ℤ → S → Type 0) (others : T → Option ℤ → T → Type 0) (r : Bool) where
  abbrev Last : Option ℤ → Option ℤ → Type 0
  Last o p = MatchOption o (MatchOption p (r ≡ true) (λ _. r ≡ false)) (λ x. (r ≡ false) × IfSome p (λ y. int_eq x y ≡ false))

  at-last : (o p : Option ℤ) (xs ys : List ℤ) (s u : S) (t w : T) → AlwaysYields steps (λ x. x) s xs → AlwaysYields others (λ y. y) t ys → steps s o u → others t p w → Last o p → r ≡ eq_zs xs ys
  at-last None None (x ∷ xs) ys s u t w e f a b h = absurd (e.0 u a)
  at-last None (Some y) (x ∷ xs) ys s u t w e f a b h = absurd (e.0 u a)
  at-last (Some x) None [] ys s u t w e f a b h = absurd (e x u a)
  at-last (Some x) (Some y) [] ys s u t w e f a b h = absurd (e x u a)
  at-last None None [] (y ∷ ys) s u t w e f a b h = absurd (f.0 w b)
  at-last None (Some y) [] [] s u t w e f a b h = absurd (f y w b)
  at-last (Some x) None (z ∷ xs) (y ∷ ys) s u t w e f a b h = absurd (f.0 w b)
  at-last (Some x) (Some y) (z ∷ xs) [] s u t w e f a b h = absurd (f y w b)
  at-last None None [] [] s u t w e f a b h = h
  at-last None (Some y) [] (z ∷ ys) s u t w e f a b h = h
  at-last (Some x) None (z ∷ xs) [] s u t w e f a b h = h.0
  at-last (Some x) (Some y) (x' ∷ xs) (y' ∷ ys) s u t w e f a b h =
      let is : false ≡ eq_z x' y' = sym h.1 ∙ equal_is x y ∙ ap₂ eq_z (e.1 x u a).0 (f.1 y w b).0 in
      h.0 ∙ ap (λ c. c && eq_zs xs ys) is

  along : (cs bs : List ℤ) (o p : Option ℤ) (xs ys : List ℤ) (s u : S) (t w : T) → AlwaysYields steps (λ x. x) s xs → AlwaysYields others (λ y. y) t ys
      → YieldsThen steps s cs o u → YieldsThen others t bs p w → AllZip (λ x y. int_eq x y ≡ true) cs bs → Last o p → r ≡ eq_zs xs ys
  along [] [] o p xs ys s u t w e f a b z h = at-last o p xs ys s u t w e f (subst (λ j. steps j o u) (sym a.1) a.2) (subst (λ j. others j p w) (sym b.1) b.2) h
  along [] (y ∷ bs) o p xs ys s u t w e f a b z h = absurd z
  along (x ∷ cs) [] o p xs ys s u t w e f a b z h = absurd z
  along (x ∷ cs) (y ∷ bs) o p [] ys s u t w e f a b z h = absurd (e x a.1.0 a.1.1)
  along (x ∷ cs) (y ∷ bs) o p (x' ∷ xs) [] s u t w e f a b z h = absurd (f y b.1.0 b.1.1)
  along (x ∷ cs) (y ∷ bs) o p (x' ∷ xs) (y' ∷ ys) s u t w e f a b z h =
      let m = e.1 x a.1.0 a.1.1 in
      let n = f.1 y b.1.0 b.1.1 in
      let tie : true ≡ eq_z x' y' = sym z.0 ∙ equal_is x y ∙ ap₂ eq_z m.0 n.0 in
      along cs bs o p xs ys a.1.0 u b.1.0 w m.1 n.1 (a.0, a.1.2, a.2) (b.0, b.1.2, b.2) z.1 h ∙ ap (λ c. c && eq_zs xs ys) tie

pub same_items : {S U T : Type 0} {steps : S → Option ℤ → S → Type 0} {others : T → Option ℤ → T → Type 0} {s : S} {xs ys : List ℤ} (becomes : U → T → Type 0) (other : U) (r : Bool)
    → ComparesItemsByEq steps becomes others s other int_eq r → YieldsList steps (λ x. x) s xs → ((it : T) → becomes other it → YieldsList others (λ y. y) it ys) → r ≡ eq_zs xs ys
same_items {steps = steps} {others = others} {s = s} {xs = xs} {ys = ys} becomes other r d e f =
    along steps others r d.1 d.2 d.3 d.4 xs ys s d.5 d.0 d.6 e.runs (f d.0 d.7).runs d.8 d.9 d.10 d.11
