use Rattle.std.proofs.Common.{ℕ, ◌+◌, ◌≤◌, leb, List, [], ◌∷◌, ◌++◌, length, Err, Result, sym, refl, ap, ◌∙◌, subst, ap₂, arith, length-append, MatchResult}
use Rattle.std.proofs.lemmas.List.{append_assoc, append-nil}
use Rattle.std.proofs.lemmas.Result.{err_from_is_err_and}
use Rattle.terms.specs.declared.fault.Cause.TheVariants.{WrongLength}
use Rattle.terms.specs.declared.fault.Fault.{Fault}
use Rattle.law.specs.Calls.{Line}
use Rattle.law.specs.Spelt.{line_of, lines_of}
use Rattle.law.proofs.PremisesRead.{lines_long}
use Rattle.spelling.specs.StepsWritten.{counted, line_bytes, lines_bytes, lines_counted}
use Rattle.writing.proofs.LaidBytes.{length-more}
use Rattle.writing.proofs.LinesLeft.{counted_more, not-counted}
use Rattle.writing.proofs.WriterAnswers.{Passes, Stops, had_length, is_counted, not_had, passed_true, passes_both, stopped_false, stopped_length, stops_first, stops_second, stops_too, suitable_length}
use Rattle.writing.proofs.step_writer.lines_length.Goals as goal

pub returns-in_err-need : goal.returns-in_err-need
returns-in_err-need c =
    let given = c.args.lines in let ls = lines_of given in
    let p = err_from_is_err_and c.from_residual.result c.from_residual.ensures.1 in let is = p.1 ∙ ap Err p.2 in
    let stop = subst (λ (n : ℕ). Stops (leb n 255) WrongLength c.in_err-need.field-0.0) (sym (lines_long given.count given.bytes.now)) c.in_err-need.ensures in
    record {
      is = stopped_length _ (length (lines_bytes ls)) _ _ (stops_first (counted ls) (lines_counted ls) WrongLength _ stop) is;
      small = subst (λ (r : Result ℕ Fault). MatchResult r (λ (k : ℕ). k ≤ 261375) (λ (f : Fault). Unit {0})) (sym is) tt;
    }

pub loop-line-init : goal.loop-line-init
loop-line-init c = ([], ap lines_of c.into_iter-line-iterator.ensures.into_iter_gives, refl, omega arith, refl)

pub overflow_add-total : goal.overflow_add-total
overflow_add-total c =
    let given = c.args.lines in let i = c.loop-line.invariant in
    let all' = length-append i.0 (lines_of c.loop-line.line-iterator) in
    record { fits = omega (arith, i.3, ap length i.1, all', lines_long given.count given.bytes.now, is_counted given.count c.in_ok-need.ensures, c.in_ok-total.ensures.small) }

pub loop-line-preserved : goal.loop-line-preserved
loop-line-preserved c =
    let i = c.loop-line.invariant in let l = line_of c.in-Some.line in
    let all' = ap (λ (ls : List Line). i.0 ++ ls) (sym c.in-Some.ensures.steps) ∙ i.1 in
    let one = had_length (counted l.premises) c.in_ok-total.field-0 (length (line_bytes l)) c.in_ok-total.ensures.is in (
      i.0 ++ l ∷ [],
      append_assoc i.0 (l ∷ []) (lines_of c.next.new.self) ∙ all',
      ap₂ (λ (a b : ℕ). a + b) i.2 one.1 ∙ sym (length-more line_bytes i.0 l []),
      omega (arith, i.3, c.in_ok-total.ensures.small, length-append i.0 (l ∷ [])),
      counted_more i.0 l i.4 (passed_true (counted l.premises) WrongLength one.0),
    )

pub returns-in_err-total : goal.returns-in_err-total
returns-in_err-total c =
    let given = c.args.lines in let ls = lines_of given in
    let i = c.loop-line.invariant in let l = line_of c.in-Some.line in
    let all' = ap (λ (ls : List Line). i.0 ++ ls) (sym c.in-Some.ensures.steps) ∙ i.1 in
    let p = err_from_is_err_and c.from_residual-in_err-total.result c.from_residual-in_err-total.ensures.1 in let is = p.1 ∙ ap Err p.2 in
    let stop = not_had (counted l.premises) (length (line_bytes l)) c.in_err-total.field-0.0 c.in_err-total.ensures.is in
    let none = ap lines_counted (sym all') ∙ not-counted i.0 l (lines_of c.next.new.self) (stopped_false (counted l.premises) WrongLength _ stop).0 in
    record {
      is = stopped_length _ (length (lines_bytes ls)) _ _ (stops_second (counted ls) (lines_counted ls) WrongLength _ (stops_too (counted l.premises) (lines_counted ls) WrongLength _ stop none)) is;
      small = subst (λ (r : Result ℕ Fault). MatchResult r (λ (k : ℕ). k ≤ 261375) (λ (f : Fault). Unit {0})) (sym is) tt;
    }

pub returns : goal.returns
returns c =
    let given = c.args.lines in let ls = lines_of given in
    let i = c.loop-line.invariant in
    let long = lines_long given.count given.bytes.now in
    let few = c.in_ok-need.ensures in
    let all' = sym (append-nil i.0) ∙ ap (λ (ls : List Line). i.0 ++ ls) (sym c.in-None.ensures.steps.0) ∙ i.1 in
    record {
      is = suitable_length _ c.loop-line.total (length (lines_bytes ls))
          (passes_both (counted ls) (lines_counted ls) WrongLength (subst (λ (n : ℕ). Passes (leb n 255) WrongLength) (sym long) few) (ap lines_counted (sym all') ∙ i.4))
          (i.2 ∙ ap (λ (ys : List Line). length (lines_bytes ys)) all');
      small = omega (arith, i.3, ap length all', long, is_counted given.count few);
    }
