-- Bytes laid into a buffer one after another.
use Rattle.std.proofs.Common.{◌≡◌, ℕ, suc, ◌+◌, ◌-◌, ◌*◌, ◌<◌, ◌≤◌, List, [], ◌∷◌, ◌++◌, map, length, get_or, take, drop, sym, refl, ap, ◌∙◌, subst, ap₂, add-zero, arith, length-append, length-drop, take-append-drop, length-take, drop-drop, take_at}
use lib.Seq.{drop-append-add}
use borrow.Rule.Slice.PartMut.{Post-is, put_mid}
use Rattle.std.proofs.lemmas.List.{append_assoc, append-nil, drop_at}
use Rattle.law.specs.Calls.{Line}
use Rattle.writing.specs.declared.pen.Pen.{Pen}
use Rattle.writing.specs.Laid.{HasRoom, Lays, laid}
use Rattle.spelling.specs.OneSpelling.{AreBytes}
use Rattle.terms.specs.Bytes.{nat16}
use Rattle.law.specs.Spelt.{premise_in}
use Rattle.spelling.proofs.ListsSpelt.{place_spelt, premise_spelt, premises_bytes_long}
use Rattle.spelling.proofs.PartsRead.{bytes_after, bytes_before}
use Rattle.std.specs.List.{flat_map}
use Rattle.spelling.specs.StepsWritten.{bytes16, bytes32, in_turn, line_bytes, places_bytes, premise_bytes, premises_bytes}

pub put_laid : (at : ℕ) (bytes part out : List ℕ) → part ≡ bytes → put_mid at ((at + length bytes) - at) out part ≡ laid at bytes out
put_laid at bytes part out e =
    ap (λ (p : List ℕ). put_mid at ((at + length bytes) - at) out p) e
    ∙ ap (λ (rest : List ℕ). take at out ++ (bytes ++ rest)) (Post-is at (at + length bytes) out (omega arith))

front : (at : ℕ) (out : List ℕ) → at ≤ length out → length (take at out) ≡ at
front at out h = omega (arith, length-take at out)

laid_long : (at : ℕ) (p out : List ℕ) → at + length p ≤ length out → length (laid at p out) ≡ length out
laid_long at p out h =
    length-append (take at out) (p ++ drop (at + length p) out)
    ∙ ap (λ (k : ℕ). length (take at out) + k) (length-append p (drop (at + length p) out))
    ∙ omega (arith, length-take at out, length-drop (at + length p) out)

laid_none : (at : ℕ) (out : List ℕ) → laid at [] out ≡ out
laid_none at out = ap (λ (k : ℕ). take at out ++ drop k out) (add-zero at) ∙ take-append-drop at out

-- ---- p and then q
module _ (at : ℕ) (p q out : List ℕ) (h : at ≤ length out) where
  abbrev front_and_p : List ℕ
  front_and_p = take at out ++ p

  abbrev after_p : List ℕ
  after_p = drop (at + length p) out

  split : laid at p out ≡ front_and_p ++ after_p
  split = sym (append_assoc (take at out) p after_p)

  long : length front_and_p ≡ at + length p
  long = length-append (take at out) p ∙ ap (λ (k : ℕ). k + length p) (front at out h)

  before_q : take (at + length p) (laid at p out) ≡ front_and_p
  before_q = ap (take (at + length p)) split ∙ take_at front_and_p after_p (at + length p) long

  after_q : drop ((at + length p) + length q) (laid at p out) ≡ drop (at + length (p ++ q)) out
  after_q =
      ap₂ (λ (k : ℕ) (xs : List ℕ). drop (k + length q) xs) (sym long) split
      ∙ drop-append-add front_and_p after_p (length q)
      ∙ drop-drop (length q) (at + length p) out
      ∙ ap (λ (k : ℕ). drop k out) (omega (arith, length-append p q))

  laid_then : laid (at + length p) q (laid at p out) ≡ laid at (p ++ q) out
  laid_then =
      ap₂ (λ (xs rest : List ℕ). xs ++ (q ++ rest)) before_q after_q
      ∙ append_assoc (take at out) p (q ++ drop (at + length (p ++ q)) out)
      ∙ ap (λ (rest : List ℕ). take at out ++ rest) (sym (append_assoc p q (drop (at + length (p ++ q)) out)))

-- ---- pens
pub lays_none : (p : Pen) → Lays p [] p
lays_none p = record { out = sym (laid_none p.at p.out.now); at = sym (add-zero p.at); buffer = refl }

-- one after another
pub then_room : {p q : Pen} {xs : List ℕ} (ys : List ℕ) → HasRoom p (xs ++ ys) → Lays p xs q → HasRoom q ys
then_room {p} {q} {xs} ys room first =
    let l = ap length first.out ∙ laid_long p.at xs p.out.now (omega (arith, length-append xs ys)) in
    omega (arith, length-append xs ys, first.at)

pub lays_then : {p q r : Pen} {xs ys : List ℕ} → HasRoom p (xs ++ ys) → Lays p xs q → Lays q ys r → Lays p (xs ++ ys) r
lays_then {p} {q} {r} {xs} {ys} room first second = record {
  out = second.out ∙ ap₂ (λ (k : ℕ) (out : List ℕ). laid k ys out) first.at first.out ∙ laid_then p.at xs ys p.out.now (omega (arith, length-append xs ys));
  at = second.at ∙ ap (λ (k : ℕ). k + length ys) first.at ∙ omega (arith, length-append xs ys);
  buffer = second.buffer ∙ first.buffer;
}

-- ---- a list, whose bytes are laid in turn
module _ {X : Type 0} (bytes : X → List ℕ) where
  in-turn-append : (xs ys : List X) → in_turn bytes (xs ++ ys) ≡ in_turn bytes xs ++ in_turn bytes ys
  in-turn-append [] ys = refl
  in-turn-append (x ∷ xs) ys = ap (λ (rest : List ℕ). bytes x ++ rest) (in-turn-append xs ys) ∙ sym (append_assoc (bytes x) (in_turn bytes xs) (in_turn bytes ys))

-- ---- a loop that lays a list: some are laid, one is next
module _ {X : Type 0} (bytes : X → List ℕ) (done : List X) (x : X) (others : List X) where
  in-turn-next : in_turn bytes (done ++ x ∷ others) ≡ in_turn bytes done ++ (bytes x ++ in_turn bytes others)
  in-turn-next = in-turn-append bytes done (x ∷ others)

  in-turn-more : in_turn bytes (done ++ x ∷ []) ≡ in_turn bytes done ++ bytes x
  in-turn-more = in-turn-append bytes done (x ∷ []) ∙ ap (λ (rest : List ℕ). in_turn bytes done ++ rest) (append-nil (bytes x))

  pub length-more : length (in_turn bytes (done ++ x ∷ [])) ≡ length (in_turn bytes done) + length (bytes x)
  length-more = ap length in-turn-more ∙ length-append (in_turn bytes done) (bytes x)

  module _ {p q : Pen} (room : HasRoom p (in_turn bytes (done ++ x ∷ others))) (so_far : Lays p (in_turn bytes done) q) where
    pub next_room : HasRoom q (bytes x)
    next_room =
        let k = then_room (bytes x ++ in_turn bytes others) (subst (HasRoom p) in-turn-next room) so_far in
        omega (arith, length-append (bytes x) (in_turn bytes others))

    pub next_laid : {r : Pen} → Lays q (bytes x) r → Lays p (in_turn bytes (done ++ x ∷ [])) r
    next_laid {r} one =
        let long = ap length in-turn-next ∙ length-append (in_turn bytes done) (bytes x ++ in_turn bytes others) in
        let enough : HasRoom p (in_turn bytes done ++ bytes x) = omega (arith, room, long, length-append (bytes x) (in_turn bytes others), length-append (in_turn bytes done) (bytes x)) in
        subst (λ (ys : List ℕ). Lays p ys r) (sym in-turn-more) (lays_then enough so_far one)

-- ---- a list of items as it stands in a file
module _ {X : Type 0} (n : ℕ) (item : List ℕ → X) (bytes : X → List ℕ) (spelt : (bs : List ℕ) → length bs ≡ n → AreBytes bs → bs ≡ bytes (item bs)) where
  items_as_bytes : (items : List (List ℕ)) → ((i : ℕ) → i < length items → length (get_or items i []) ≡ n) → AreBytes (flat_map (λ x. x) items) → flat_map (λ x. x) items ≡ in_turn bytes (map item items)
  items_as_bytes [] long fits = refl
  items_as_bytes (x ∷ xs) long fits =
      let first = take_at x (flat_map (λ y. y) xs) n (long 0 (omega arith)) in
      let others = drop_at x (flat_map (λ y. y) xs) n (long 0 (omega arith)) in
      ap₂ ◌++◌ (spelt x (long 0 (omega arith)) (subst AreBytes first (bytes_before n (x ++ flat_map (λ y. y) xs) fits)))
      (items_as_bytes xs (λ i h. long (suc i) (omega arith)) (subst AreBytes others (bytes_after n (x ++ flat_map (λ y. y) xs) fits)))

-- what is known of places and premises as a slice
abbrev AreItems : ℕ → List (List ℕ) → Type 0
AreItems n items = (i : ℕ) → i < length items → length (get_or items i []) ≡ n

pub places_as_bytes : (items : List (List ℕ)) (bs : List ℕ) → AreItems 2 items → AreBytes bs → bs ≡ flat_map (λ x. x) items → bs ≡ places_bytes (map nat16 items)
places_as_bytes items bs long fits e = e ∙ items_as_bytes 2 nat16 bytes16 place_spelt items long (subst AreBytes e fits)

pub premises_as_bytes : (items : List (List ℕ)) (bs : List ℕ) → AreItems 4 items → AreBytes bs → bs ≡ flat_map (λ x. x) items → bs ≡ premises_bytes (map premise_in items)
premises_as_bytes items bs long fits e = e ∙ items_as_bytes 4 premise_in premise_bytes premise_spelt items long (subst AreBytes e fits)

-- ---- lengths
pub line_long : (l : Line) → length (line_bytes l) ≡ 5 + 4 * length l.premises
line_long l = omega (arith, premises_bytes_long l.premises, length-append (premises_bytes l.premises) (bytes32 l.divisor))
