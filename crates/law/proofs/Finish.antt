-- A boxed job can be finished: halve each variable's range, then pin the point, or drop where the range is empty.
use Rattle.std.proofs.Common.{◌≡◌, ℕ, zero, suc, ◌+◌, ◌*◌, ◌^◌, ◌<◌, ◌≤◌, Bool, true, false, not, ◌||◌, ltb, List, [], ◌∷◌, ◌++◌, map, length, replicate, ℤ, pos, ◌+ℤ◌, ◌-ℤ◌, ◌*ℤ◌, neg_ℤ, ◌<ℤ◌, Some, None, Option, sym, refl, ap, ◌∙◌, subst, ap₂, ⊎_elim, arith, pow_pos}
use mathlib.Core.Path.{subst⁻¹}
use lib.Signed.{lt_z}
use Rattle.std.specs.List.{ContainsAt as Has, AllByRecursion}
use Rattle.std.proofs.ByRecursion.{has_append_left, has_push}
use Rattle.std.proofs.lemmas.List.{get_or_push, length_push}
use Rattle.std.proofs.lemmas.Int.{by_lt_z, ints}
use Rattle.std.proofs.lemmas.Bool.{and_from, cases_Bool, cases_order, eq-eqb, le-leb, lt-ltb, not-false, or_parts, or_right}
use Rattle.terms.specs.declared.fault.Cause.TheVariants.{Full, NoSuchPlace, NotAdmitted, NotCheaper, NotContradiction, NotDivisible, NotFixed, OutOfRange, PointStaysOpen, RowMissed, RowTooLarge, WrongLength}
use Rattle.terms.specs.Integers.{eq_z}
use Rattle.terms.specs.Limits.{million, right_limit, within}
use Rattle.terms.specs.Rows.{Plan, Row, meets, negated, plus, unit}
use Rattle.terms.proofs.ByPlace.{length-unit}
use Rattle.terms.proofs.Integers.{within_from}
use Rattle.terms.proofs.SmallLists.{within_near}
use Rattle.theories.specs.Meaning.{Meaning}
use Rattle.theories.specs.Pairs.{every}
use Rattle.law.specs.Jobs.{Job, size}
use Rattle.law.specs.Calls.{Line}
use Rattle.law.specs.declared.premise.Premise.{Premise}
use Rattle.law.specs.Calls.Call.{cut, take, drop, pin}
use Rattle.law.specs.Lines.{divides, floor, made, no_row, row_at, summed, times}
use Rattle.law.specs.Bounds.{all_zero, point}
use Rattle.law.specs.Steps.{branch_checks, cheaper, contradiction, pin_checks, shuts_at}
use Rattle.law.specs.Pile.{moment}
use Rattle.law.specs.Law.{CanFinish, HasRow, LiesIn}
use Rattle.law.proofs.Clear.{Clear, Yes, every_yes, first_clear, unless_clear, yes_every}
use Rattle.law.proofs.Boxes.{Fixed, Free, Near, Places, fixed_push, free_push, high, low, places, yes_unit, yes_zeros}
use Rattle.law.proofs.Floors.{floor-by_one}
use Rattle.law.proofs.Keeps.{lies_yes, yes_lies}
use Rattle.law.proofs.Reach.{Shuttable, reach_by, reach_here, shut_by_lem, shut_halves}

-- a row and its negation, once each, come to nothing
cancelled : (cs : List ℤ) → plus (times (pos 1) cs) (plus (times (pos 1) (negated cs)) []) ≡ replicate (length cs) (pos 0)
cancelled [] = refl
cancelled (c ∷ cs) = ap₂ ◌∷◌ (omega (arith, ints)) (ap (plus (times (pos 1) cs)) (sym (plus_nil (times (pos 1) (negated cs)))) ∙ cancelled cs)
  where
    plus_nil : (bs : List ℤ) → plus bs [] ≡ bs
    plus_nil [] = refl
    plus_nil (b ∷ bs) = refl

yes_floors : (g : ℤ → Bool) (m : ℕ) → g (pos 0) ≡ true → AllByRecursion Yes (map g (map (λ c. floor c 1) (replicate m (pos 0))))
yes_floors g zero h = tt
yes_floors g (suc m) h = (h, yes_floors g m h)

module _ (j : Job) (th : Meaning (List ℕ)) where
  -- ---- at a point
  pin_clear : (t : List Row) (taken : Option Plan) (p : Places (size j) t 0 (size j)) → shuts_at j th t taken (point (size j) t p.list) ≡ true → AllByRecursion Clear (pin_checks j th t taken p.list)
  pin_clear t taken p s =
      (unless_clear WrongLength 0 (eq-eqb _ _ p.twice), (first_clear NoSuchPlace 0 _ p.there, (first_clear NotFixed 0 _ p.holding, (unless_clear PointStaysOpen 0 s, tt))))

  not_below_itself : (x : Plan) → cheaper j (Some x) x ≡ false
  not_below_itself x = sym (omega (arith, ints))

  shut-point : (t : List Row) → ((x : Plan) → LiesIn t x → LiesIn j.rows x) → Places (size j) t 0 (size j) → Shuttable j th t
  shut-point t job p rest taken =
      let x = point (size j) t p.list in
      ⊎_elim
      (λ yes'. (taken, reach_by j th t rest taken (pin p.list) (moment rest taken) (pin_clear t taken p yes') (reach_here j th (moment rest taken))))
      (λ no'.
      let a = or_parts (not (every (map (meets x) t))) (not (th.admits x) || not (cheaper j taken x)) no' in
      let b = or_parts (not (th.admits x)) (not (cheaper j taken x)) a.1 in
      let lies : LiesIn t x = yes_lies x t (every_yes (map (meets x) t) (not-false _ a.0)) in
      let now-shut : shuts_at j th t (Some x) x ≡ true =
      or_right (not (every (map (meets x) t))) _ (or_right (not (th.admits x)) (not (cheaper j (Some x) x)) (ap not (not_below_itself x))) in (
        Some x,
        reach_by j th t rest taken (take x) (moment rest (Some x)) (
          unless_clear WrongLength 0 (eq-eqb _ _ p.long),
          (
            first_clear OutOfRange 0 _ p.small,
            (
              first_clear RowMissed 0 _ (lies_yes x j.rows (job x lies)),
              (unless_clear NotAdmitted 0 (not-false (th.admits x) b.0), (unless_clear NotCheaper 0 (not-false (cheaper j taken x) b.1), tt)),
            ),
          ),
        )
            (reach_by j th t rest (Some x) (pin p.list) (moment rest (Some x)) (pin_clear t (Some x) p now-shut) (reach_here j th (moment rest (Some x)))),
      ))
      (cases_Bool (shuts_at j th t taken x))

  -- ---- an empty range: the two rows together, then the row 0 ≤ something below 0
  shut-empty : (t : List Row) (i : ℕ) (f : Free (size j) t i) → length t < 512 → (f.most +ℤ f.least) <ℤ pos 0 → Shuttable j th t
  shut-empty t i f small empty =
      let n = size j in
      let p : Premise = record { place = f.above.0; multiplier = 1 } in
      let q : Premise = record { place = f.below.0; multiplier = 1 } in
      let l : Line = record { premises = p ∷ q ∷ []; divisor = 1 } in
      let m = length (unit n i) in
      let coefficients-are : (summed t l.premises).coefficients ≡ replicate m (pos 0) =
      ap₂ (λ (r s : Row). plus (times (pos 1) r.coefficients) (plus (times (pos 1) s.coefficients) [])) (f.above.2 no_row) (f.below.2 no_row) ∙ cancelled (unit n i) in
      let right_is : (summed t l.premises).right ≡ f.most +ℤ f.least =
      ap₂ (λ (r s : Row). pos 1 *ℤ r.right +ℤ (pos 1 *ℤ s.right +ℤ pos 0)) (f.above.2 no_row) (f.below.2 no_row) ∙ omega (arith, ints) in
      let made-right : (made t l).right ≡ f.most +ℤ f.least = floor-by_one (summed t l.premises).right ∙ right_is in
      let new = made t l in
      let nm = f.near_most in let nl = f.near_least in
      let last : row_at (t ++ new ∷ []) (length t) ≡ new = get_or_push t new no_row (length t) refl in
      shut_by_lem j th t (t ++ new ∷ []) (cut l)
      (λ taken. (
        refl,
        (
          refl,
          (
            refl,
            (
              unless_clear Full 0 (le-leb _ _ (omega arith)),
              (
                first_clear NoSuchPlace 0 (map (λ k. ltb k (length t)) (p.place ∷ q.place ∷ [])) (lt-ltb _ _ f.above.1, (lt-ltb _ _ f.below.1, tt)),
                (
                  first_clear NotDivisible 0 _ (subst⁻¹ (λ cs. AllByRecursion Yes (map (divides 1) cs)) coefficients-are (yes_zeros (divides 1) m refl)),
                  (
                    first_clear RowTooLarge 0 _ (subst⁻¹ (λ cs. AllByRecursion Yes (map (within million) (map (λ c. floor c 1) cs))) coefficients-are (yes_floors (within million) m refl)),
                    (unless_clear RowTooLarge 16 (ap (within right_limit) made-right ∙ within_from right_limit (f.most +ℤ f.least) (omega (arith, ints))), tt),
                  ),
                ),
              ),
            ),
          ),
        ),
      ))
      (λ rest taken. refl)
      (λ rest taken. (
        taken,
        reach_by j th (t ++ new ∷ []) rest taken (drop (length t)) (moment rest taken) (
          unless_clear NoSuchPlace 0 (lt-ltb _ _ (omega (arith, length_push t new))),
          (
            unless_clear NotContradiction 0 (ap contradiction last
                ∙ and_from (all_zero new.coefficients) (lt_z new.right (pos 0))
                (yes_every _ (subst⁻¹ (λ cs. AllByRecursion Yes (map (eq_z (pos 0)) (map (λ c. floor c 1) cs))) coefficients-are (yes_floors (eq_z (pos 0)) m refl)))
                (ap (λ z. lt_z z (pos 0)) made-right ∙ sym (omega (arith, ints)))),
            tt,
          ),
        )
            (reach_here j th (moment rest taken)),
      ))

  -- ---- halving: variables below `some` are free, those from `all` on are fixed
  record Ready (some all : ℕ) (t : List Row) : Type 0 where
    loose : (i : ℕ) → i < some → Free (size j) t i
    tight : (i : ℕ) → all ≤ i → i < size j → Fixed (size j) t i
    job : (x : Plan) → LiesIn t x → LiesIn j.rows x

  front : (x : Plan) (t s : List Row) → LiesIn (t ++ s) x → LiesIn t x
  front x [] s h = tt
  front x (r ∷ t) s h = (h.0, front x t s h.1)

  ready_push : (some all : ℕ) (t : List Row) (r : Row) → Ready some all t → Ready some all (t ++ r ∷ [])
  ready_push some all t r y = record {
    loose = λ i h. free_push (size j) t r i (y.loose i h);
    tight = λ i h g. fixed_push (size j) t r i (y.tight i h g);
    job = λ x h. y.job x (front x t (r ∷ []) h);
  }

  branch_clear : (t : List Row) (i : ℕ) (v : ℤ) → length t < 512 → Near v → AllByRecursion Clear (branch_checks (size j) t (high (size j) i v))
  branch_clear t i v small near = (
    unless_clear WrongLength 0 (eq-eqb _ _ (length-unit (size j) i)),
    (
      first_clear OutOfRange 0 _ (yes_unit (within million) (size j) i refl refl),
      (
        unless_clear OutOfRange (length (unit (size j) i))
            (and_from (within right_limit v) (within right_limit (neg_ℤ v -ℤ pos 1)) (within_from right_limit v (omega (arith, ints))) (within_from right_limit (neg_ℤ v -ℤ pos 1) (omega (arith, ints)))),
        (unless_clear Full 0 (le-leb _ _ (omega arith)), tt),
      ),
    ),
  )

  -- the range of the variable v is below 2 ^ h; `go` shuts what has this one fixed too
  halve : (v : ℕ) → v < size j → ((t : List Row) → Ready v v t → length t + 21 * v < 512 → Shuttable j th t) →
      (h : ℕ) (t : List Row) → Ready v (suc v) t → (f : Free (size j) t v) → (f.most +ℤ f.least) <ℤ pos (2 ^ h) → length t + h + 21 * v < 512 → Shuttable j th t
  halve v in' go zero t y f narrow fits =
      by_lt_z (f.most +ℤ f.least) (pos 0)
      (λ empty. shut-empty t v f (omega arith) empty)
      (λ point'.
      let same : f.least ≡ neg_ℤ f.most = omega (arith, ints) in
      let this : Fixed (size j) t v = record { value = f.most; above = f.above; below = subst (λ z. Has t (low (size j) v z)) same f.below; near = f.near_most } in
      go t (record {
        loose = y.loose;
        tight = λ i a b. ⊎_elim (λ e. subst (λ i. Fixed (size j) t i) e this) (λ d. ⊎_elim (λ less. y.tight i less b) (λ more. absurd (omega arith)) d) (cases_order v i);
        job = y.job;
      }) (omega arith))
  halve v in' go (suc h) t y f narrow fits =
      by_lt_z (f.most +ℤ f.least) (pos (2 ^ h))
      (λ less. halve v in' go h t y f less (omega arith))
      (λ more.
      let n = size j in
      let m : ℤ = pos (2 ^ h) -ℤ pos 1 -ℤ f.least in
      let k : ℤ = neg_ℤ m -ℤ pos 1 in
      let nm = f.near_most in let nl = f.near_least in
      let one : 1 ≤ 2 ^ h = pow_pos h in
      let twice : 2 ^ suc h ≡ 2 * 2 ^ h = omega arith in
      let near-m : Near m = omega (arith, ints) in
      let near-k : Near k = omega (arith, ints) in
      let upper : Row = high n v m in let lower : Row = low n v k in
      let left : Free n (t ++ upper ∷ []) v = record { most = m; least = f.least; above = has_push t upper; below = has_append_left t (upper ∷ []) _ f.below; near_most = near-m; near_least = nl } in
      let right' : Free n (t ++ lower ∷ []) v = record { most = f.most; least = k; above = has_append_left t (lower ∷ []) _ f.above; below = has_push t lower; near_most = nm; near_least = near-k } in
      shut_halves j th t upper (branch_clear t v m (omega arith) near-m)
      (halve v in' go h (t ++ upper ∷ []) (ready_push v (suc v) t upper y) left (omega (arith, ints)) (omega (arith, length_push t upper)))
      (halve v in' go h (t ++ lower ∷ []) (ready_push v (suc v) t lower y) right' (omega (arith, ints)) (omega (arith, length_push t lower))))

  -- variable after variable, 21 halvings for each
  settle : (v : ℕ) → v ≤ size j → (t : List Row) → Ready v v t → length t + 21 * v < 512 → Shuttable j th t
  settle zero in' t y fits = shut-point t y.job (places (size j) t (size j) 0 (omega arith) (λ k a b. y.tight k a b))
  settle (suc v) in' t y fits =
      let f = y.loose v (omega arith) in
      let nm = f.near_most in let nl = f.near_least in
      halve v in' (λ t' y' fits'. settle v (omega arith) t' y' fits') 21 t
      (record { loose = λ i h. y.loose i (omega arith); tight = y.tight; job = y.job }) f (omega (arith, ints)) (omega arith)

  row_has : (cs : List ℤ) (b : HasRow j cs) → Has j.rows (record { coefficients = cs; right = b.0.right })
  row_has cs b = subst (λ cs. Has j.rows (record { coefficients = cs; right = b.0.right })) b.2 b.1

  pub can_finish : CanFinish j th
  can_finish sized box =
      let vs = sized.variables in let rs = sized.rows_few in
      let start : Ready (size j) (size j) j.rows = record {
        loose = λ i h. let b = box i h in let u = b.0 in let l = b.1 in
            record { most = u.0.right; least = l.0.right; above = row_has _ u; below = row_has _ l; near_most = within_near million u.0.right u.3; near_least = within_near million l.0.right l.3 };
        tight = λ i h g. absurd (omega arith);
        job = λ x h. h;
      } in
      let end = settle (size j) (omega arith) j.rows start (omega arith) [] None in
      (end.1.0, moment [] end.0, end.1.1, refl)
