-- The theories keep the law.
use Rattle.std.specs.Prelude.{All, ◌≡◌, ℕ, zero, suc, ◌<◌, ◌≤◌, Bool, true, false, not, ◌&&◌, ◌||◌, ◌⊎◌, List, [], ◌∷◌, map, length, get_or, pos, ◌-ℤ◌, neg_ℤ, ◌==◌, ◌≢◌, nat_le, nat_lt, is_some, slice_index_or, refl}
use Rattle.std.proofs.Common.{sym, ap, inl, inr, ⊎_elim, arith}
use Rattle.std.proofs.lemmas.Int.{ints}
use Rattle.std.proofs.lemmas.Bool.{and_parts, or_cases, or_left, or_right, leb-true, ltb-true, eqb-true, not-true, both_ways, and_from, eq-eqb, cases_order}
use Rattle.terms.specs.declared.fault.Cause.TheVariants.{OutOfRange}
use Rattle.terms.specs.Faults.{unless}
use Rattle.terms.specs.Integers.{eq_z}
use Rattle.terms.specs.Limits.{million, right_limit}
use Rattle.terms.specs.Rows.{Plan, reads}
use Rattle.terms.proofs.Integers.{eq_z_true, eq_z_same, within_from}
use Rattle.terms.proofs.Passed.{parts_passed, unless_passed}
use Rattle.theories.specs.declared.parts.Batch.{Batch}
use Rattle.theories.specs.declared.parts.Call.{Call}
use Rattle.theories.specs.declared.parts.Pair.{Pair}
use Rattle.theories.specs.Bare.{no_bytes}
use Rattle.theories.specs.Clues.{two_bytes}
use Rattle.theories.specs.Meaning.{IfAny, Lawful, Proper, Rightful, Rule, picked, rule_between, difference}
use Rattle.theories.specs.OneVat.{apart, batch_kind, before, no_batch, one_vat, vat_between, vat_named}
use Rattle.theories.specs.Pairs.{every, every_pair}
use Rattle.theories.specs.Pairwise.{EachRightful, Kind, Passes, RightfulTwo, pairwise, parts_named, suits_two}
use Rattle.theories.specs.SharedResults.{agree, alike, call_kind, no_call, shared_between, shared_named, shared_results}

-- ---- every two elements
every_at : {A : Type 0} (f : A → Bool) (xs : List A) (k : ℕ) (d : A) → every (map f xs) ≡ true → k < length xs → f (slice_index_or xs k d) ≡ true
every_at f [] k d e h = absurd (omega arith)
every_at f (x ∷ xs) zero d e h = (and_parts (f x) (every (map f xs)) e).0
every_at f (x ∷ xs) (suc k) d e h = every_at f xs k d (and_parts (f x) (every (map f xs)) e).1 (omega arith)

pair_at : {A : Type 0} (f : A → A → Bool) (xs : List A) (i k : ℕ) (d : A) → every_pair f xs ≡ true → i < k → k < length xs → f (slice_index_or xs i d) (slice_index_or xs k d) ≡ true
pair_at f [] i k d e h l = absurd (omega arith)
pair_at f (x ∷ xs) i zero d e h l = absurd (omega arith)
pair_at f (x ∷ xs) zero (suc k) d e h l = every_at (f x) xs k d (and_parts _ (every_pair f xs) e).0 (omega arith)
pair_at f (x ∷ xs) (suc i) (suc k) d e h l = pair_at f xs i k d (and_parts _ (every_pair f xs) e).1 (omega arith) (omega arith)

-- ---- a theory of parts that are told two by two
-- a rule that is rightful for some plans is so for fewer
rightful_fewer : (some fewer : Plan → Bool) (r : Rule) → ((x : Plan) → fewer x ≡ true → some x ≡ true) → Rightful some r → Rightful fewer r
rightful_fewer some fewer r less h = record { few = h.few; proper = h.proper; proper_end = h.proper_end; holds = λ x ok. h.holds x (less x ok) }

between_lawful : {A : Type 0} (admits : Plan → Bool) (between : A → A → Rule) (test : Bool) (xs : List A) (i k : ℕ) (d : A) → (test ≡ true → Rightful admits (between (slice_index_or xs i d) (slice_index_or xs k d))) → IfAny admits (rule_between between (picked test xs i k d))
between_lawful admits between true xs i k d h = h refl
between_lawful admits between false xs i k d h = tt

module _ {A : Type 0} (kind : Kind A) (ps : List A) where
  abbrev pub part_at : ℕ → A
  part_at i = slice_index_or ps i kind.blank

  -- an admitted plan suits the two parts that a clue names
  admitted_two : (p : Pair) → p.one < length ps → p.other < length ps → (x : Plan) → every_pair (kind.suited x) ps ≡ true → suits_two kind p (part_at p.one) (part_at p.other) x ≡ true
  admitted_two p h l x ok =
      ⊎_elim (λ e. or_left (p.one == p.other) _ (eq-eqb p.one p.other e))
      (λ either. or_right (p.one == p.other) _ (⊎_elim
      (λ o. or_left (kind.suited x (part_at p.one) (part_at p.other)) _ (pair_at (kind.suited x) ps p.one p.other kind.blank ok o l))
      (λ o. or_right (kind.suited x (part_at p.one) (part_at p.other)) _ (pair_at (kind.suited x) ps p.other p.one kind.blank ok o h))
      either))
      (cases_order p.one p.other)

  -- the rule of two parts is rightful for the plans that the theory admits, where it is so for those that suit the two
  named_rightful : ((p : Pair) → p.one < length ps → p.other < length ps → RightfulTwo kind p (part_at p.one) (part_at p.other)) → (p : Pair) → parts_named kind ps p ≡ true → Rightful (pairwise kind ps).admits (kind.between (part_at p.one) (part_at p.other))
  named_rightful two p e =
      let t = and_parts (nat_lt p.one (length ps)) (nat_lt p.other (length ps) && kind.ruled p (part_at p.one) (part_at p.other)) e in
      let u = and_parts (nat_lt p.other (length ps)) (kind.ruled p (part_at p.one) (part_at p.other)) t.1 in
      let h = ltb-true p.one (length ps) t.0 in let k = ltb-true p.other (length ps) u.0 in
      rightful_fewer (suits_two kind p (part_at p.one) (part_at p.other)) (pairwise kind ps).admits _ (admitted_two p h k) (two p h k (λ e. ap part_at e) u.1)

  -- a theory keeps the law where the rule of each two parts is rightful
  pub pairwise_lawful : ((p : Pair) → p.one < length ps → p.other < length ps → RightfulTwo kind p (part_at p.one) (part_at p.other)) → Lawful (pairwise kind ps)
  pairwise_lawful two p =
      between_lawful (pairwise kind ps).admits kind.between (parts_named kind ps p) ps p.one p.other kind.blank (named_rightful two p)

  -- so does one whose parts have all passed their checks
  pub kept_lawful : EachRightful kind → All (Passes kind) ps → Lawful (pairwise kind ps)
  kept_lawful rightful kept = pairwise_lawful (λ p h k. rightful p (part_at p.one) (part_at p.other) (kept p.one kind.blank h) (kept p.other kind.blank k))

-- ---- one vat
either_before : (p : Pair) (a b : Batch) (x : Plan) → suits_two batch_kind p a b x ≡ true → not (p.one == p.other) ≡ true → (before x a b ≡ true) ⊎ (before x b a ≡ true)
either_before p a b x ok differ =
    ⊎_elim (λ e. absurd (both_ways (p.one == p.other) (not-true _ differ) e))
    (λ either. ⊎_elim (λ o. or_cases _ _ o) (λ o. ⊎_elim inr inl (or_cases (before x b a) (before x a b) o)) (or_cases (apart x a b) (apart x b a) either))
    (or_cases (p.one == p.other) (apart x a b || apart x b a) ok)

vat_two : (p : Pair) (a b : Batch) → a.start ≤ 15 → b.start ≤ 15 → a.duration ≤ 1000000 → b.duration ≤ 1000000 → RightfulTwo batch_kind p a b
vat_two p a b sa sb da db same differ = record {
  few = omega arith;
  proper = (record { first_place = omega arith; second_place = omega arith; limited = within_from right_limit (pos a.duration -ℤ pos 1) (omega (arith, ints)) }, tt);
  proper_end = record { first_place = omega arith; second_place = omega arith; limited = within_from right_limit (neg_ℤ (pos b.duration)) (omega (arith, ints)) };
  holds = λ x ok h.
      let m = h.0 in
      ⊎_elim (λ f. omega (arith, ints)) (λ f. omega (arith, ints)) (either_before p a b x ok differ);
}

differ : (i k : ℕ) → (i ≢ k) → (b : Bool) → i == k ≡ b → not b ≡ true
differ i k d true e = absurd (d (eqb-true i k e))
differ i k d false e = refl

either_first : (bs : List Batch) (x : Plan) (i k : ℕ) → every_pair (apart x) bs ≡ true → (i ≢ k) → i < length bs → k < length bs →
    (before x (slice_index_or bs i no_batch) (slice_index_or bs k no_batch) ≡ true) ⊎ (before x (slice_index_or bs k no_batch) (slice_index_or bs i no_batch) ≡ true)
either_first bs x i k a d h l =
    let p : Pair = record { one = i; other = k } in
    either_before p (slice_index_or bs i no_batch) (slice_index_or bs k no_batch) x (admitted_two batch_kind bs p h l x a) (differ i k d (i == k) refl)

module _ (bs : List Batch) (placed : (k : ℕ) → (get_or bs k no_batch).start ≤ 15) (limited : (k : ℕ) → (get_or bs k no_batch).duration ≤ 1000000) where
  two_batches : (p : Pair) → p.one < length bs → p.other < length bs → RightfulTwo batch_kind p (slice_index_or bs p.one no_batch) (slice_index_or bs p.other no_batch)
  two_batches p h k = vat_two p _ _ (placed p.one) (placed p.other) (limited p.one) (limited p.other)

  vat_rightful : (p : Pair) → vat_named bs p ≡ true → Rightful (one_vat bs).admits (vat_between (slice_index_or bs p.one no_batch) (slice_index_or bs p.other no_batch))
  vat_rightful = named_rightful batch_kind bs two_batches

  pub one_vat_lawful : Lawful (one_vat bs)
  one_vat_lawful = pairwise_lawful batch_kind bs two_batches

-- what the checks say of a batch that passed them
batch_within : (b : Batch) → Passes batch_kind b → (b.start ≤ 15) × (b.duration ≤ 1000000)
batch_within b e =
    let p = parts_passed (unless (nat_le b.start 15) OutOfRange 0) _ e in
    let q = parts_passed (unless (nat_le 1 b.duration && nat_le b.duration million) OutOfRange 1) [] p.1 in
    (leb-true b.start 15 (unless_passed _ OutOfRange 0 p.0), leb-true b.duration million (and_parts (nat_le 1 b.duration) _ (unless_passed _ OutOfRange 1 q.0)).1)

pub batches_rightful : EachRightful batch_kind
batches_rightful p a b e f =
    let k = batch_within a e in let l = batch_within b f in
    vat_two p a b k.0 l.0 k.1 l.1

-- ---- shared results
agree_result : (x : Plan) (c d : Call) → agree x c d ≡ true → c.function ≡ d.function → reads x c.first ≡ reads x d.first → reads x c.second ≡ reads x d.second → reads x c.result ≡ reads x d.result
agree_result x c d a f o t =
    ⊎_elim (λ u. absurd (both_ways _ (not-true _ u)
    (and_from (c.function == d.function) _ (eq-eqb _ _ f) (and_from (eq_z (reads x c.first) (reads x d.first)) (eq_z (reads x c.second) (reads x d.second)) (eq_z_same _ _ o) (eq_z_same _ _ t)))))
    (λ u. eq_z_true _ _ u)
    (or_cases (not (alike x c d)) (eq_z (reads x c.result) (reads x d.result)) a)

-- two calls of one function with equal arguments have equal results, whichever comes first
one_result : (p : Pair) (c d : Call) (x : Plan) → (p.one ≡ p.other → c ≡ d) → suits_two call_kind p c d x ≡ true → c.function ≡ d.function → reads x c.first ≡ reads x d.first → reads x c.second ≡ reads x d.second → reads x c.result ≡ reads x d.result
one_result p c d x same ok f o t =
    ⊎_elim (λ e. ap (λ (c : Call). reads x c.result) (same (eqb-true _ _ e)))
    (λ either. ⊎_elim (λ u. agree_result x c d u f o t) (λ u. sym (agree_result x d c u (sym f) (sym o) (sym t))) (or_cases (agree x c d) (agree x d c) either))
    (or_cases (p.one == p.other) (agree x c d || agree x d c) ok)

near_zero : (a b : ℕ) → a ≤ 16 → b ≤ 16 → Proper (difference a b (pos 0))
near_zero a b h g = record { first_place = h; second_place = g; limited = within_from right_limit (pos 0) (omega (arith, ints)) }

calls_two : (p : Pair) (c d : Call) → c.first ≤ 15 → d.first ≤ 15 → c.second ≤ 16 → d.second ≤ 16 → c.result ≤ 15 → d.result ≤ 15 → RightfulTwo call_kind p c d
calls_two p c d fc fd sc sd rc rd same alone = record {
  few = omega arith;
  proper = (
    near_zero c.first d.first (omega arith) (omega arith),
    (
      near_zero d.first c.first (omega arith) (omega arith),
      (near_zero c.second d.second sc sd, (near_zero d.second c.second sd sc, tt)),
    ),
  );
  proper_end = near_zero c.result d.result (omega arith) (omega arith);
  holds = λ x ok h.
      let p₁ = h.0 in let p₂ = h.1.0 in let p₃ = h.1.1.0 in let p₄ = h.1.1.1.0 in
      let same = one_result p c d x same ok (eqb-true _ _ alone) (omega (arith, ints)) (omega (arith, ints)) in
      omega (arith, ints);
}

same_result : (cs : List Call) (x : Plan) (i k : ℕ) → every_pair (agree x) cs ≡ true → i < length cs → k < length cs →
    (get_or cs i no_call).function ≡ (get_or cs k no_call).function →
    reads x (get_or cs i no_call).first ≡ reads x (get_or cs k no_call).first →
    reads x (get_or cs i no_call).second ≡ reads x (get_or cs k no_call).second →
    reads x (get_or cs i no_call).result ≡ reads x (get_or cs k no_call).result
same_result cs x i k a h l =
    let p : Pair = record { one = i; other = k } in
    one_result p (get_or cs i no_call) (get_or cs k no_call) x (λ e. ap (λ n. get_or cs n no_call) e) (admitted_two call_kind cs p h l x a)

module _ (cs : List Call) (firsts : (k : ℕ) → (get_or cs k no_call).first ≤ 15) (seconds : (k : ℕ) → (get_or cs k no_call).second ≤ 16) (results : (k : ℕ) → (get_or cs k no_call).result ≤ 15) where
  two_calls : (p : Pair) → p.one < length cs → p.other < length cs → RightfulTwo call_kind p (get_or cs p.one no_call) (get_or cs p.other no_call)
  two_calls p h k = calls_two p _ _ (firsts p.one) (firsts p.other) (seconds p.one) (seconds p.other) (results p.one) (results p.other)

  shared_rightful : (p : Pair) → shared_named cs p ≡ true → Rightful (shared_results cs).admits (shared_between (slice_index_or cs p.one no_call) (slice_index_or cs p.other no_call))
  shared_rightful = named_rightful call_kind cs two_calls

  pub shared_results_lawful : Lawful (shared_results cs)
  shared_results_lawful = pairwise_lawful call_kind cs two_calls

-- what the checks say of a call that passed them
call_within : (c : Call) → Passes call_kind c → (c.first ≤ 15) × (c.second ≤ 16) × (c.result ≤ 15)
call_within c e =
    let p = parts_passed (unless (nat_le c.first 15) OutOfRange 1) _ e in
    let q = parts_passed (unless (nat_le c.second 16) OutOfRange 2) _ p.1 in
    let r = parts_passed (unless (nat_le c.result 15) OutOfRange 3) [] q.1 in
    (leb-true c.first 15 (unless_passed _ OutOfRange 1 p.0), leb-true c.second 16 (unless_passed _ OutOfRange 2 q.0), leb-true c.result 15 (unless_passed _ OutOfRange 3 r.0))

pub calls_rightful : EachRightful call_kind
calls_rightful p c d e f =
    let k = call_within c e in let l = call_within d f in
    calls_two p c d k.0 l.0 k.1 l.1 k.2 l.2

-- ---- the bytes of a clue
pub two_bytes_sized : (bytes : List ℕ) → is_some (two_bytes bytes) ≡ true → length bytes ≡ 2
two_bytes_sized [] e = absurd (cc)
two_bytes_sized (i ∷ []) e = absurd (cc)
two_bytes_sized (i ∷ k ∷ []) e = refl
two_bytes_sized (i ∷ k ∷ l ∷ ls) e = absurd (cc)

pub no_bytes_sized : (bytes : List ℕ) → is_some (no_bytes bytes) ≡ true → length bytes ≡ 0
no_bytes_sized [] e = refl
no_bytes_sized (b ∷ bs) e = absurd (cc)
