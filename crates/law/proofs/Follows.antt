-- A plan that lies in a table meets every row that a line or a rule makes of it.
use Rattle.std.proofs.Common.{◌≡◌, ℕ, zero, suc, ◌+◌, ◌<◌, Bool, true, false, cond, eqb, leb, List, [], ◌∷◌, ◌++◌, map, length, ℤ, pos, ◌≤ℤ◌, Some, None, Option, refl, ap, arith}
use lib.Signed.{le_z}
use Rattle.std.specs.List.{zip, AllByRecursion}
use Rattle.std.proofs.ByRecursion.{All-push}
use Rattle.std.proofs.lemmas.Int.{ints}
use Rattle.std.proofs.lemmas.Bool.{and_parts, eqb-true, false≢true, leb-true}
use Rattle.terms.specs.declared.difference.Difference.{Difference}
use Rattle.terms.specs.declared.fault.Cause.TheVariants.{NotDivisible, OutOfRange, PremiseNotShown, WrongLength}
use Rattle.terms.specs.Integers.{eq_zs}
use Rattle.terms.specs.Limits.{million}
use Rattle.terms.specs.Rows.{Holds, Meets, Plan, Row, difference_row, dot}
use Rattle.terms.proofs.Integers.{times_le}
use Rattle.terms.proofs.Passed.{clash, unless_passed}
use Rattle.theories.specs.Meaning.{IfAny, Lawful, Meaning, Rule}
use Rattle.law.specs.Jobs.{Job, Model, size}
use Rattle.law.specs.Calls.{Line}
use Rattle.law.specs.declared.premise.Premise.{Premise}
use Rattle.law.specs.Lines.{between, cut_checks, divides, division_check, divisor_check, floor, last_made, line_checks, lines_checks, made, row_at, summed, times}
use Rattle.law.specs.Bounds.{at_most, bound, empty, shown_at, stands_for}
use Rattle.law.specs.Steps.{rule_checks, rule_row}
use Rattle.law.specs.Law.{LiesIn}
use Rattle.law.proofs.Clear.{Clear, Yes, all_clear, eq_zs_true, first_passed, line_clear}
use Rattle.law.proofs.Dots.{dot_all_zero, dot-difference, dot-plus, dot-times}
use Rattle.law.proofs.Floors.{divided_back, floor_greatest}

-- ---- lines
pub place_met : (x : Plan) (t : List Row) (place : ℕ) → LiesIn t x → Meets x (row_at t place)
place_met x [] place h = omega (arith, ints)
place_met x (r ∷ t) zero h = h.0
place_met x (r ∷ t) (suc place) h = place_met x t place h.1

sum_met : (x : Plan) (t : List Row) (ps : List Premise) → LiesIn t x → Meets x (summed t ps)
sum_met x t [] h = omega (arith, ints)
sum_met x t (p ∷ ps) h =
    let r = row_at t p.place in let s = summed t ps in let m = pos p.multiplier in
    omega (
      arith,
      ints,
      dot-plus (times m r.coefficients) s.coefficients x,
      dot-times m r.coefficients x,
      times_le p.multiplier (dot r.coefficients x) r.right (place_met x t p.place h),
      sum_met x t ps h,
    )

quotient_met : (x : Plan) (d : ℕ) (cs : List ℤ) (r : ℤ) → 0 < d → AllByRecursion Yes (map (divides d) cs) → dot cs x ≤ℤ r → dot (map (λ c. floor c d) cs) x ≤ℤ floor r d
quotient_met x d cs r p h m =
    let e = dot-times (pos d) (map (λ c. floor c d) cs) x in
    let back = ap (λ ds. dot ds x) (divided_back d cs h) in
    floor_greatest d (dot (map (λ c. floor c d) cs) x) r p (omega (arith, ints))

-- a check of the divisor that does not apply
pub divisor_positive : (l : Line) → Clear (divisor_check l) → 0 < l.divisor
divisor_positive l e = leb-true 1 l.divisor (and_parts (leb 1 l.divisor) (leb l.divisor million) (unless_passed (between 1 million l.divisor) OutOfRange (length l.premises) e)).0

made_met : (x : Plan) (t : List Row) (l : Line) → LiesIn t x → Clear (divisor_check l) → Clear (division_check t l) → Meets x (made t l)
made_met x t l h e f =
    let s = summed t l.premises in
    quotient_met x l.divisor s.coefficients s.right (divisor_positive l e) (first_passed NotDivisible 0 (map (divides l.divisor) s.coefficients) f) (sum_met x t l.premises h)

pub cut_met : (x : Plan) (t : List Row) (l : Line) → LiesIn t x → AllByRecursion Clear (cut_checks t l) → Meets x (made t l)
cut_met x t l h f = made_met x t l h f.1.1.0 f.1.1.1.1.1.0

pub chain_met : (x : Plan) (before : Row) (k : ℕ) (t : List Row) (ls : List Line) → Meets x before → LiesIn t x → AllByRecursion Clear (lines_checks k t ls) → Meets x (last_made before t ls)
chain_met x before k t [] m h e = m
chain_met x before k t (l ∷ ls) m h e =
    let f = all_clear (line_checks t l) (line_clear k _ e.0) in
    let new = made_met x t l h f.1.1.0 f.1.1.1.1.0 in
    chain_met x (made t l) (k + 1) (t ++ made t l ∷ []) ls new (All-push (Meets x) t (made t l) h new) e.1

-- ---- rules
bound_by : (b : Bool) (cs : List ℤ) (r : Row) (x : Plan) (v : ℤ) → eq_zs r.coefficients cs ≡ b → cond b (Some r.right) None ≡ Some v → Meets x r → dot cs x ≤ℤ v
bound_by true cs r x v same e m =
    let right : r.right ≡ v = cc in
    omega (arith, ints, ap (λ ds. dot ds x) (eq_zs_true r.coefficients cs same))
bound_by false cs r x v same e m = clash (cc)

-- a bound holds of every plan that meets its row
pub bound_met : (cs : List ℤ) (r : Row) (x : Plan) (v : ℤ) → bound cs r ≡ Some v → Meets x r → dot cs x ≤ℤ v
bound_met cs r x v e m = bound_by (eq_zs r.coefficients cs) cs r x v refl e m

at_most_lem : (most : ℤ) (o : Option ℤ) (s : ℤ) → at_most most o ≡ true → ((v : ℤ) → o ≡ Some v → s ≤ℤ v) → s ≤ℤ most
at_most_lem most None s e h = absurd (false≢true e)
at_most_lem most (Some v) s e h = let p = h v refl in omega (arith, ints)

shown_by : (n : ℕ) (t : List Row) (d : Difference) (place : ℕ) (x : Plan) (b : Bool) → length x ≡ n → LiesIn t x → empty n d ≡ b → cond b (le_z (pos 0) d.most) (stands_for n d (row_at t place)) ≡ true → Holds x d
shown_by n t d place x true long h is s = omega (arith, ints, dot-difference n d x long, dot_all_zero (difference_row n d).coefficients x is)
shown_by n t d place x false long h is s =
    let cs = (difference_row n d).coefficients in
    let low = at_most_lem d.most (bound cs (row_at t place)) (dot cs x) s (λ v e. bound_met cs (row_at t place) x v e (place_met x t place h)) in
    omega (arith, ints, dot-difference n d x long)

premises_hold : (n : ℕ) (t : List Row) (ds : List Difference) (places : List ℕ) (x : Plan) → length x ≡ n → LiesIn t x → length places ≡ length ds → AllByRecursion Yes (map (λ q. shown_at n t q.0 q.1) (zip ds places)) → AllByRecursion (Holds x) ds
premises_hold n t [] places x e h l s = tt
premises_hold n t (d ∷ ds) [] x e h l s = absurd (omega arith)
premises_hold n t (d ∷ ds) (p ∷ ps) x e h l s = (shown_by n t d p x (empty n d) e h refl s.0, premises_hold n t ds ps x e h (omega arith) s.1)

inferred_by : (j : Job) (th : Meaning (List ℕ)) (t : List Row) (places : List ℕ) (x : Plan) → Model j th x → LiesIn t x → (o : Option Rule) → IfAny th.admits o → AllByRecursion Clear (rule_checks (size j) t o places) → Meets x (rule_row (size j) o)
inferred_by j th t places x m h None law f = omega (arith, ints)
inferred_by j th t places x m h (Some u) law f =
    let same : length places ≡ length u.premises = eqb-true _ _ (unless_passed (eqb (length places) (length u.premises)) WrongLength 0 f.1.0) in
    let shown = first_passed PremiseNotShown 0 (map (λ q. shown_at (size j) t q.0 q.1) (zip u.premises places)) f.1.1.1.1.0 in
    let holds = law.holds x m.admitted (premises_hold (size j) t u.premises places x m.long h same shown) in
    omega (arith, ints, dot-difference (size j) u.conclusion x m.long)

pub rule_met : (j : Job) (th : Meaning (List ℕ)) → Lawful th → (t : List Row) (clue places : List ℕ) (x : Plan) → Model j th x → LiesIn t x → AllByRecursion Clear (rule_checks (size j) t (th.rule clue) places) → Meets x (rule_row (size j) (th.rule clue))
rule_met j th law t clue places x m h f = inferred_by j th t places x m h (th.rule clue) (law clue) f
