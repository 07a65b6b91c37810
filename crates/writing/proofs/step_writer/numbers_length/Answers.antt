use Rattle.std.proofs.Common.{ℕ, ◌+◌, [], List, length, get_or, take, ℤ, pos, sym, refl, ap, ◌∙◌, ap₂, arith, w32, SFits, rules}
use Rattle.std.proofs.lemmas.List.{take_all, take_more}
use Rattle.std.proofs.lemmas.Int.{to_z-of_z}
use Rattle.spelling.specs.StepsWritten.{number_bytes, numbers_bytes}
use Rattle.writing.proofs.LaidBytes.{length-more}
use Rattle.writing.proofs.step_writer.numbers_length.Goals as goal

pub loop-number-init : goal.loop-number-init
loop-number-init c = (refl, omega arith)

pub overflow_add-total : goal.overflow_add-total
overflow_add-total c = record { fits = omega (arith, c.loop-number.invariant.1, c.number_length-total.ensures.small, c.requires) }

pub loop-number-preserved : goal.loop-number-preserved
loop-number-preserved c =
    let l = c.loop-number in let vs = c.args.numbers.now in let i = l.number-index in let v = get_or vs i (pos 0) in
    let f : SFits w32 v = search rules in
    let one = c.number_length-total.ensures.is ∙ ap (λ (z : ℤ). length (number_bytes z)) (to_z-of_z w32 v f) in (
      ap₂ (λ (a b : ℕ). a + b) l.invariant.0 one
          ∙ sym (ap (λ (ys : List ℤ). length (numbers_bytes ys)) (take_more vs i (pos 0) (omega arith)) ∙ length-more number_bytes (take i vs) v []),
      omega (arith, l.invariant.1, c.number_length-total.ensures.small),
    )

pub returns : goal.returns
returns c =
    let l = c.loop-number in let vs = c.args.numbers.now in
    record {
      is = l.invariant.0 ∙ ap (λ (ys : List ℤ). length (numbers_bytes ys)) (take_all l.number-index vs (omega arith));
      small = omega (arith, l.invariant.1, c.requires);
    }
