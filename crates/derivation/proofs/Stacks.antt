-- Waiting heights as rows join the table and leave it.
use Rattle.std.proofs.Common.{◌≡◌, ℕ, ◌<◌, ◌≤◌, Bool, true, ◌&&◌, ltb, List, [], ◌∷◌, ◌++◌, map, length, get_or, take, ℤ, pos, sym, ap, ◌∙◌, arith}
use lib.Signed.{lt_z}
use Rattle.std.proofs.lemmas.List.{get_or_append_left, get_or-take, length-append, length-map, map-append, take-append-le, take-map}
use Rattle.std.proofs.lemmas.Bool.{and_from, and_parts, le-leb, leb-true, lt-ltb, ltb-true}
use Rattle.terms.specs.declared.row.Row.{Row as Stored}
use Rattle.terms.specs.Limits.{right_limit}
use Rattle.terms.specs.Stored.{row_of}
use Rattle.law.specs.Table.{Falling}
use Rattle.derivation.specs.Stacked.{rights_of, stacked}

module _ (g : ℕ) where
  abbrev limited : List ℤ → ℕ → Bool
  limited rights h = lt_z (get_or rights h (pos 0)) (pos right_limit)

  -- a height in front of others
  pub stacked_parts : (rights : List ℤ) (n h : ℕ) (hs : List ℕ) → stacked g rights n (h ∷ hs) ≡ true → (h < n) × (limited rights h ≡ true) × (stacked g rights h hs ≡ true)
  stacked_parts rights n h hs e =
      let p = and_parts (ltb h n) (limited rights h && stacked g rights h hs) e in
      let q = and_parts (limited rights h) (stacked g rights h hs) p.1 in
      (ltb-true h n p.0, q.0, q.1)

  pub stacked_from : (rights : List ℤ) (n h : ℕ) (hs : List ℕ) → h < n → limited rights h ≡ true → stacked g rights h hs ≡ true → stacked g rights n (h ∷ hs) ≡ true
  stacked_from rights n h hs l r s = and_from (ltb h n) (limited rights h && stacked g rights h hs) (lt-ltb h n l) (and_from (limited rights h) (stacked g rights h hs) r s)

  pub stacked_higher : (rights : List ℤ) (n m : ℕ) (hs : List ℕ) → n ≤ m → stacked g rights n hs ≡ true → stacked g rights m hs ≡ true
  stacked_higher rights n m [] l e = le-leb g m (omega (arith, leb-true g n e))
  stacked_higher rights n m (h ∷ hs) l e = let p = stacked_parts rights n h hs e in let q = p.0 in stacked_from rights m h hs (omega arith) p.1 p.2

  -- only the rows below n count
  pub stacked_same : (rights others : List ℤ) (n : ℕ) (hs : List ℕ) → ((k : ℕ) → k < n → get_or others k (pos 0) ≡ get_or rights k (pos 0)) → stacked g rights n hs ≡ true → stacked g others n hs ≡ true
  stacked_same rights others n [] f e = e
  stacked_same rights others n (h ∷ hs) f e =
      let p = stacked_parts rights n h hs e in let q = p.0 in
      stacked_from others n h hs q (ap (λ z. lt_z z (pos right_limit)) (f h q) ∙ p.1) (stacked_same rights others h hs (λ k l. f k (omega arith)) p.2)

  pub stacked_few : (rights : List ℤ) (n : ℕ) (hs : List ℕ) → stacked g rights n hs ≡ true → length hs ≤ n
  stacked_few rights n [] e = omega arith
  stacked_few rights n (h ∷ hs) e = let p = stacked_parts rights n h hs e in let q = p.0 in let r = stacked_few rights h hs p.2 in omega arith

  pub stacked_given : (rights : List ℤ) (n : ℕ) (hs : List ℕ) → stacked g rights n hs ≡ true → g ≤ n
  stacked_given rights n [] e = leb-true g n e
  stacked_given rights n (h ∷ hs) e = let p = stacked_parts rights n h hs e in let q = p.0 in let r = stacked_given rights h hs p.2 in omega arith

  pub stacked_falling : (rights : List ℤ) (n : ℕ) (hs : List ℕ) → stacked g rights n hs ≡ true → Falling n hs
  stacked_falling rights n [] e = tt
  stacked_falling rights n (h ∷ hs) e = let p = stacked_parts rights n h hs e in (p.0, stacked_falling rights h hs p.2)

-- ---- rows that join at the end, and that leave from there
module _ (g : ℕ) (rows : List Stored) (hs : List ℕ) where
  pub stacked_joined : (n : ℕ) (r : Stored) → n ≤ length rows → stacked g (rights_of rows) n hs ≡ true → stacked g (rights_of (rows ++ r ∷ [])) n hs ≡ true
  stacked_joined n r m e =
      stacked_same g (rights_of rows) (rights_of (rows ++ r ∷ [])) n hs
      (λ k l. ap (λ zs. get_or zs k (pos 0)) (map-append (λ (s : Stored). s.right) rows (r ∷ [])) ∙ get_or_append_left (rights_of rows) (r.right ∷ []) (pos 0) k (omega (arith, length-map rows (λ (s : Stored). s.right)))) e

  pub stacked_left : (n : ℕ) → stacked g (rights_of rows) n hs ≡ true → stacked g (rights_of (take n rows)) n hs ≡ true
  stacked_left n e =
      stacked_same g (rights_of rows) (rights_of (take n rows)) n hs
      (λ k l. ap (λ zs. get_or zs k (pos 0)) (sym (take-map (λ (s : Stored). s.right) n rows)) ∙ get_or-take n (rights_of rows) k (pos 0) l) e

-- a row that joins leaves the heights in order
pub stack_joined : (g : ℕ) (rows : List Stored) (hs : List ℕ) (r : Stored) → stacked g (rights_of rows) (length rows) hs ≡ true → stacked g (rights_of (rows ++ r ∷ [])) (length (rows ++ r ∷ [])) hs ≡ true
stack_joined g rows hs r e =
    stacked_higher g (rights_of (rows ++ r ∷ [])) (length rows) (length (rows ++ r ∷ [])) hs (omega (arith, length-append rows (r ∷ []))) (stacked_joined g rows hs (length rows) r (omega arith) e)

pub given_joined : (n : ℕ) (rows : List Stored) (g : ℕ) (r : Stored) → g ≤ length rows → map (row_of n) (take g (rows ++ r ∷ [])) ≡ map (row_of n) (take g rows)
given_joined n rows g r l = ap (map (row_of n)) (take-append-le g rows (r ∷ []) l)
