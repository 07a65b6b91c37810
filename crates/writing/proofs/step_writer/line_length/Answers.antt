use Rattle.std.proofs.lemmas.List.{length-map}
use Rattle.law.specs.Spelt.{premise_in}
use Rattle.std.proofs.Common.{sym, ◌∙◌, ℕ, ◌+◌, ◌*◌, leb, length, subst, arith}
use Rattle.terms.specs.declared.fault.Cause.TheVariants.{WrongLength}
use Rattle.law.specs.Spelt.{line_of}
use Rattle.spelling.specs.StepsWritten.{counted, line_bytes}
use Rattle.writing.proofs.LaidBytes.{line_long}
use Rattle.writing.proofs.WriterAnswers.{Passes, is_counted, suitable_length}
use Rattle.writing.proofs.step_writer.line_length.Goals as goal

pub returns : goal.returns
returns c =
    let l = line_of c.args.line.now in let k = c.len-count.result in
    let few = c.in_ok-need.ensures in
    let same = c.len-count.ensures ∙ sym (length-map c.args.line.now.premises.items.now premise_in) in
    record {
      is = suitable_length (counted l.premises) (5 + 4 * k) (length (line_bytes l)) (subst (λ (n : ℕ). Passes (leb n 255) WrongLength) same few) (omega (arith, same, line_long l));
      small = omega (arith, is_counted k few);
    }
