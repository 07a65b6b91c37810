-- What a proof holds moves as the pile does that it stands for.
use Rattle.std.proofs.Common.{◌≡◌, ℕ, ◌<◌, ◌≤◌, Bool, true, false, List, [], ◌∷◌, ◌++◌, map, length, take as firsts, Some, None, Ok, Option, Result, refl, ap, ◌∙◌, ap₂, arith}
use Rattle.std.proofs.lemmas.List.{get_or_append_left, get_or_push, get_or-take, length_push, length-take-le, take-append-le, take_at, take-take}
use Rattle.terms.specs.declared.fault.Fault.{Fault}
use Rattle.terms.specs.Faults.{changed}
use Rattle.terms.specs.Rows.{Plan, Row, opposite}
use Rattle.terms.proofs.Passed.{clash}
use Rattle.theories.specs.Meaning.{Meaning}
use Rattle.law.specs.Jobs.{Job}
use Rattle.law.specs.Calls.{Call}
use Rattle.law.specs.Calls.Call.{branch, cut, chain, infer, cutoff, take, drop, pin}
use Rattle.law.specs.Lines.{no_row, row_at}
use Rattle.law.specs.Pile.{Moment, Subproblem, after, called, moment, moved, moved_top, refusal, with_row}
use Rattle.law.specs.Table.{Falling, Holding, HoldsThePile, Orderly, begun, done, joined, shut, view, waiting, worked, worked_all}

-- ---- rows behind a height do not change what waits there
abbrev ending : List Row → Row → Subproblem
ending t r = t ++ opposite r ∷ []

waiting-append : (t s : List Row) (h : ℕ) → h < length t → waiting (t ++ s) h ≡ waiting t h
waiting-append t s h l = ap₂ ending (take-append-le h t s (omega arith)) (get_or_append_left t s no_row h l)

waiting_front : (t : List Row) (n h : ℕ) → h < n → waiting (firsts n t) h ≡ waiting t h
waiting_front t n h l = ap₂ ending (take-take h n t (omega arith)) (get_or-take n t h no_row l)

all_append : (t s : List Row) (n : ℕ) (hs : List ℕ) → n ≤ length t → Falling n hs → map (waiting (t ++ s)) hs ≡ map (waiting t) hs
all_append t s n [] l f = refl
all_append t s n (h ∷ hs) l f = ap₂ ◌∷◌ (waiting-append t s h (omega arith)) (all_append t s h hs (omega arith) f.1)

all_front : (t : List Row) (n m : ℕ) (hs : List ℕ) → n ≤ m → Falling n hs → map (waiting (firsts m t)) hs ≡ map (waiting t) hs
all_front t n m [] l f = refl
all_front t n m (h ∷ hs) l f = ap₂ ◌∷◌ (waiting_front t m h (omega arith)) (all_front t h m hs (omega arith) f.1)

-- a subproblem that becomes the table leaves the older ones as they were
all_shut : (t : List Row) (h : ℕ) (hs : List ℕ) → h < length t → Falling h hs → map (waiting (waiting t h)) hs ≡ map (waiting t) hs
all_shut t h hs l f =
    let e = length-take-le h t (omega arith) in
    all_append (firsts h t) (opposite (row_at t h) ∷ []) h hs (omega arith) f ∙ all_front t h h hs (omega arith) f

waiting_last : (t : List Row) (r : Row) → waiting (t ++ r ∷ []) (length t) ≡ t ++ opposite r ∷ []
waiting_last t r = ap₂ ending (take_at t (r ∷ []) (length t) refl) (get_or_push t r no_row (length t) refl)

falling_higher : (n m : ℕ) (hs : List ℕ) → n ≤ m → Falling n hs → Falling m hs
falling_higher n m [] l f = tt
falling_higher n m (h ∷ hs) l f = (omega arith, f.1)

-- ---- one call
joined_orderly : (t : List Row) (hs : List ℕ) (taken : Option Plan) (r : Row) → Falling (length t) hs → Orderly (joined t hs taken r)
joined_orderly t hs taken r f = falling_higher (length t) (length (t ++ r ∷ [])) hs (omega (arith, length_push t r)) f

joined-view : (t : List Row) (hs : List ℕ) (taken : Option Plan) (r : Row) → Falling (length t) hs → view (joined t hs taken r) ≡ with_row t (map (waiting t) hs) taken r
joined-view t hs taken r f = ap (λ (ws : List Subproblem). with_row t ws taken r) (all_append t (r ∷ []) (length t) hs (omega arith) f)

module _ (j : Job) (th : Meaning (List ℕ)) where
  shut_orderly : (t : List Row) (hs : List ℕ) (taken : Option Plan) → Falling (length t) hs → Orderly (shut j t hs taken)
  shut_orderly t [] taken f = tt
  shut_orderly t (h ∷ hs) taken f = falling_higher h (length (waiting t h)) hs (omega (arith, length_push (firsts h t) (opposite (row_at t h)), length-take-le h t (omega arith))) f.1

  shut-view : (t : List Row) (hs : List ℕ) (taken : Option Plan) → Falling (length t) hs → view (shut j t hs taken) ≡ moment (map (waiting t) hs) taken
  shut-view t [] taken f = refl
  shut-view t (h ∷ hs) taken f = ap (λ (ws : List Subproblem). moment (waiting t h ∷ ws) taken) (all_shut t h hs f.0 f.1)

  pub done_orderly : (t : List Row) (hs : List ℕ) (taken : Option Plan) (c : Call) → Falling (length t) hs → Orderly (done j th t hs taken c)
  done_orderly t hs taken (branch r) f = (omega (arith, length_push t r), f)
  done_orderly t hs taken (cut l) f = joined_orderly t hs taken _ f
  done_orderly t hs taken (chain ls) f = joined_orderly t hs taken _ f
  done_orderly t hs taken (infer clue places) f = joined_orderly t hs taken _ f
  done_orderly t hs taken cutoff f = joined_orderly t hs taken _ f
  done_orderly t hs taken (take x) f = f
  done_orderly t hs taken (drop place) f = shut_orderly t hs taken f
  done_orderly t hs taken (pin places) f = shut_orderly t hs taken f

  pub done-view : (t : List Row) (hs : List ℕ) (taken : Option Plan) (c : Call) → Falling (length t) hs → view (done j th t hs taken c) ≡ moved_top j th t (map (waiting t) hs) taken c
  done-view t hs taken (branch r) f =
      ap₂ (λ (w : Subproblem) (ws : List Subproblem). with_row t (w ∷ ws) taken r) (waiting_last t r) (all_append t (r ∷ []) (length t) hs (omega arith) f)
  done-view t hs taken (cut l) f = joined-view t hs taken _ f
  done-view t hs taken (chain ls) f = joined-view t hs taken _ f
  done-view t hs taken (infer clue places) f = joined-view t hs taken _ f
  done-view t hs taken cutoff f = joined-view t hs taken _ f
  done-view t hs taken (take x) f = refl
  done-view t hs taken (drop place) f = shut-view t hs taken f
  done-view t hs taken (pin places) f = shut-view t hs taken f

  -- ---- any call: an orderly holding stays so, and leaves and answers what the pile does
  abbrev Alike : Holding → Call → Option Fault → Type 0
  Alike p c o = let q : Holding × Result (Unit {0}) Fault = changed o p (done j th p.table p.heights p.taken c) in
      Orderly q.0 × (◌≡◌ {A = Moment × Result (Unit {0}) Fault} (view q.0, q.1) (changed o (view p) (moved j th (view p) c)))

  worked-by : (mark : Bool) (t : List Row) (hs : List ℕ) (taken : Option Plan) (c : Call) (o : Option Fault) →
      let p : Holding = record { table = t; heights = hs; mark = mark; taken = taken } in
      refusal j th (view p) c ≡ o → Orderly p → Alike p c o
  worked-by mark t hs taken c (Some f) e s = (s, refl)
  worked-by true t hs taken c None e s = (done_orderly t hs taken c s, ap (λ (m : Moment). (m, Ok tt)) (done-view t hs taken c s))
  worked-by false t hs taken c None e s = clash (cc)

  worked_both : (p : Holding) (c : Call) → Orderly p → Alike p c (refusal j th (view p) c)
  worked_both p c s = worked-by p.mark p.table p.heights p.taken c (refusal j th (view p) c) refl s

  pub worked_orderly : (p : Holding) (c : Call) → Orderly p → Orderly (worked j th p c).0
  worked_orderly p c s = (worked_both p c s).0

  pub worked_as_called : (p : Holding) (c : Call) → Orderly p → ◌≡◌ {A = Moment × Result (Unit {0}) Fault} (view (worked j th p c).0, (worked j th p c).1) (called j th (view p) c)
  worked_as_called p c s = (worked_both p c s).1

  all_as_called : (p : Holding) (cs : List Call) → Orderly p → view (worked_all j th p cs) ≡ after j th (view p) cs
  all_as_called p [] s = refl
  all_as_called p (c ∷ cs) s =
      all_as_called (worked j th p c).0 cs (worked_orderly p c s) ∙ ap (λ (q : Moment × Result (Unit {0}) Fault). after j th q.0 cs) (worked_as_called p c s)

  pub holds_the_pile : HoldsThePile j th
  holds_the_pile cs = all_as_called (begun j) cs tt
