use Rattle.std.proofs.Common.{◌≡◌, ℕ, ◌+◌, ap, ◌∙◌, subst, ℤ, List, Ok, eqb, length, arith}
use Rattle.terms.specs.Faults.{otherwise, unless}
use Rattle.terms.specs.declared.fault.Cause.TheVariants.{WrongLength}
use Rattle.spelling.specs.StepsWritten.{mapped_bytes}
use Rattle.writing.proofs.WriterAnswers.{same_length, suitable_length}
use Rattle.writing.proofs.step_writer.mapped_length.Goals as goal

pub numbers_length-requires : goal.numbers_length-requires
numbers_length-requires c = omega (arith, same_length (length c.values-numbers.result.now) c.args.n c.in_ok-need.ensures, c.requires)

pub returns-clause-is : goal.returns-clause-is
returns-clause-is c =
    let vs = c.values-numbers.result.now in let k = 2 + c.numbers_length.result in
    subst (λ (xs : List ℤ). Ok k ≡ otherwise (unless (eqb (length xs) c.args.n) WrongLength 0) (length (mapped_bytes xs))) c.values-numbers.ensures
    (suitable_length (eqb (length vs) c.args.n) k (length (mapped_bytes vs)) c.in_ok-need.ensures (ap (λ (j : ℕ). 2 + j) c.numbers_length.ensures.is ∙ omega arith))
