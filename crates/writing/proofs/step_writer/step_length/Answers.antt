use Rattle.std.proofs.Common.{◌≡◌, ℕ, ◌+◌, ◌*◌, ◌&&◌, eqb, leb, ◌∷◌, ◌++◌, Ok, Option, Some, sym, ◌∙◌, ap₂, subst, length, length-append, arith, rules}
use Rattle.std.proofs.lemmas.List.{length-map}
use Rattle.terms.specs.Bytes.{nat16}
use Rattle.terms.specs.Faults.{otherwise, unless}
use Rattle.terms.specs.declared.fault.Cause.TheVariants.{WrongLength}
use Rattle.law.specs.declared.step.Step.{Step}
use Rattle.law.specs.declared.step.Step.TheVariants.{Infer, Pin}
use Rattle.law.specs.Spelt.{places_of}
use Rattle.spelling.specs.StepsSeen.{call_in}
use Rattle.spelling.specs.StepsWritten.{counted, places_bytes, spelling, suits}
use Rattle.spelling.proofs.ListsSpelt.{places_bytes_long}
use Rattle.writing.proofs.WriterAnswers.{Passes, passed_true, passes_both, same_length, suitable_length}
use Rattle.writing.proofs.step_writer.step_length.Goals as goal

pub returns-in_ok-need-in-Some-Infer-2 : goal.returns-in_ok-need-in-Some-Infer-2
returns-in_ok-need-in-Some-Infer-2 c =
    let n = c.args.n in let w = c.args.width in let clue = c.in-Some-Infer.clue.now in let ps = places_of c.in-Some-Infer.places in
    let is : c.args.step.now ≡ Some (Infer c.in-Some-Infer.clue c.in-Some-Infer.places) = search rules in
    let same = length-map c.in-Some-Infer.places.items.now nat16 in
    let few = passed_true (leb (length ps) 255) WrongLength (subst (λ (k : ℕ). Passes (leb k 255) WrongLength) (c.len.ensures ∙ sym same) c.in_ok-need-in-Some-Infer-2.ensures) in
    let both = ap₂ ◌&&◌ (passed_true (eqb (length clue) w) WrongLength c.in_ok-need-in-Some-Infer.ensures) few in
    let size = (2 + length clue) + 2 * c.len-in-Some-Infer.result in
    let long : size ≡ length (73 ∷ (clue ++ length ps ∷ places_bytes ps)) = omega (arith, c.len-in-Some-Infer.ensures, same, places_bytes_long ps, length-append clue (length ps ∷ places_bytes ps)) in
    subst (λ (s : Option Step). Ok size ≡ otherwise (unless (leb n 16 && suits n w (call_in s)) WrongLength 0) (length (spelling (call_in s)))) (sym is)
    (suitable_length (leb n 16 && (eqb (length clue) w && counted ps)) size (length (73 ∷ (clue ++ length ps ∷ places_bytes ps))) (passes_both (leb n 16) (eqb (length clue) w && counted ps) WrongLength c.in_ok-need.ensures both) long)

pub returns-in_ok-need-in-Some-Pin : goal.returns-in_ok-need-in-Some-Pin
returns-in_ok-need-in-Some-Pin c =
    let n = c.args.n in let w = c.args.width in let ps = places_of c.in-Some-Pin.places in
    let is : c.args.step.now ≡ Some (Pin c.in-Some-Pin.places) = search rules in
    let fits = subst (λ (k : ℕ). Passes (eqb k (2 * n)) WrongLength) (c.len-in-Some-Pin.ensures ∙ sym (length-map c.in-Some-Pin.places.items.now nat16)) c.in_ok-need-in-Some-Pin.ensures in
    let long : 1 + 4 * n ≡ length (80 ∷ places_bytes ps) = omega (arith, places_bytes_long ps, same_length (length ps) (2 * n) fits) in
    subst (λ (s : Option Step). Ok (1 + 4 * n) ≡ otherwise (unless (leb n 16 && suits n w (call_in s)) WrongLength 0) (length (spelling (call_in s)))) (sym is)
    (suitable_length (leb n 16 && eqb (length ps) (2 * n)) (1 + 4 * n) (length (80 ∷ places_bytes ps)) (passes_both (leb n 16) (eqb (length ps) (2 * n)) WrongLength c.in_ok-need.ensures (passed_true (eqb (length ps) (2 * n)) WrongLength fits)) long)
