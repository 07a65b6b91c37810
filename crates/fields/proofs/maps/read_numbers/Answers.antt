use Rattle.std.proofs.Common.{◌/◌, ◌^◌, [], Ok, Err, refl, ap, ◌∙◌, w32, SFits, to_z, of_z, rules}
use Rattle.std.proofs.lemmas.List.{length-set}
use Rattle.std.proofs.lemmas.Result.{err_from_is_err_and}
use Rattle.std.proofs.lemmas.Int.{to_z-of_z}
use Rattle.std.proofs.Math.Nat.{div-one}
use Rattle.fields.specs.Rest.{with_rest}
use Rattle.fields.specs.Maps.{numbers_read, one_read, spread}
use Rattle.fields.proofs.Spreading.{all_in_front, no_numbers, spread_all, spread_more, spread-stops}
use Rattle.fields.proofs.maps.read_numbers.Goals as goal

pub loop-i-init : goal.loop-i-init
unfolding numbers_read
loop-i-init c = (ap (λ m. all_in_front [] (spread 16 m c.args.bytes.now)) (div-one c.args.map) ∙ no_numbers (spread 16 c.args.map c.args.bytes.now), refl)

pub returns-in_err-number : goal.returns-in_err-number
returns-in_err-number c =
    let p = err_from_is_err_and c.from_residual.result c.from_residual.ensures.1 in
    ap with_rest (p.1 ∙ ap Err p.2)
    ∙ spread-stops c.loop-i.i c.args.map c.loop-i.rest.now c.loop-i.items _ c.loop-i-test.true c.loop-i.invariant.0 c.in_err-number.field-0.0 (c.in_err-number.ensures ∙ ap (λ b. one_read b c.loop-i.rest.now) c.is_set.ensures)

pub loop-i-preserved : goal.loop-i-preserved
loop-i-preserved c =
    let f : SFits w32 c.in_ok-number.number = search rules in
    let e = ap (λ z. Ok (z, c.in_ok-number.after.now)) (to_z-of_z w32 c.in_ok-number.number f) ∙ c.in_ok-number.ensures ∙ ap (λ b. one_read b c.loop-i.rest.now) c.is_set.ensures in (
      spread_more c.loop-i.i c.args.map c.loop-i.rest.now c.loop-i.items _ c.loop-i-test.true c.loop-i.invariant.0 (to_z w32 (of_z w32 c.in_ok-number.number)) c.in_ok-number.after.now c.loop-i.invariant.1 e,
      length-set c.loop-i.items c.loop-i.i _ ∙ c.loop-i.invariant.1,
    )

pub returns : goal.returns
returns c = spread_all c.loop-i.i (c.args.map / 2 ^ c.loop-i.i) c.loop-i.rest.now c.loop-i.items _ c.loop-i-test.false c.loop-i.auto.i-end c.loop-i.invariant.1 c.loop-i.invariant.0
