-- Lines of which some are done: whether a byte can count their premises.
use Rattle.std.proofs.Common.{◌≡◌, ◌≤◌, Bool, true, false, ◌&&◌, T, leb, List, [], ◌∷◌, ◌++◌, length, sym, refl, ap, ◌∙◌, subst, ap₂, leb→le}
use Rattle.std.proofs.lemmas.Bool.{and_parts}
use Rattle.law.specs.Calls.{Line}
use Rattle.spelling.specs.StepsWritten.{counted, lines_counted}

pub next-counted : (done : List Line) (l : Line) (others : List Line) → lines_counted (done ++ l ∷ others) ≡ true → length l.premises ≤ 255
next-counted [] l others e = let few : leb (length l.premises) 255 ≡ true = (and_parts (counted l.premises) (lines_counted others) e).0 in leb→le (length l.premises) 255 (subst T (sym few) tt)
next-counted (k ∷ done) l others e = next-counted done l others (and_parts (counted k.premises) (lines_counted (done ++ l ∷ others)) e).1

pub counted_more : (done : List Line) (l : Line) → lines_counted done ≡ true → counted l.premises ≡ true → lines_counted (done ++ l ∷ []) ≡ true
counted_more [] l e f = ap (λ (b : Bool). b && true) f
counted_more (k ∷ done) l e f = let p = and_parts (counted k.premises) (lines_counted done) e in ap₂ ◌&&◌ p.0 (counted_more done l p.1 f)

pub not-counted : (done : List Line) (l : Line) (others : List Line) → counted l.premises ≡ false → lines_counted (done ++ l ∷ others) ≡ false
not-counted [] l others e = ap (λ (b : Bool). b && lines_counted others) e
not-counted (k ∷ done) l others e = ap (λ (b : Bool). counted k.premises && b) (not-counted done l others e) ∙ and_false (counted k.premises)
  where
    and_false : (b : Bool) → b && false ≡ false
    and_false true = refl
    and_false false = refl
