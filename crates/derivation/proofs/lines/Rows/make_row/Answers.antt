use Rattle.std.proofs.Common.{length, take, Err, ap, ◌∙◌, arith, w64, SFits, to_z, of_z, rules}
use Rattle.std.proofs.lemmas.List.{length-take-le}
use Rattle.std.proofs.lemmas.Int.{to_z-of_z}
use Rattle.std.proofs.lemmas.Result.{MatchResult-weaker, err_from_is_err_and}
use Rattle.terms.specs.Rows.{Row}
use Rattle.terms.proofs.Passed.{passed, refused_case, stopped}
use Rattle.law.specs.Spelt.{line_of, premises_of}
use Rattle.derivation.proofs.LinesMade.{line_made, line_stopped, place_below, places_stop}
use Rattle.derivation.proofs.lines.Rows.make_row.Goals as goal

pub returns-in_err-check_places : goal.returns-in_err-check_places
returns-in_err-check_places c =
    let p = err_from_is_err_and c.from_residual.result c.from_residual.ensures.1 in
    refused_case _ _ _ c.in_err-check_places.field-0.0 (p.1 ∙ ap Err p.2) (places_stop c.args.self.now.size c.args.self.now.items.now (line_of c.args.line.now.line) _ (stopped _ _ _ c.in_err-check_places.ensures))

pub sum-sums-requires : goal.sum-sums-requires
sum-sums-requires c = place_below (length c.args.self.now.items.now) (premises_of c.args.line.now.line.premises) (passed _ _ _ c.in_ok-check_places.ensures).0

pub returns : goal.returns
returns c =
    let n = c.args.self.now.size in let rows = c.args.self.now.items.now in let l = line_of c.args.line.now.line in
    let e = (passed _ _ _ c.in_ok-check_places.ensures).0 in
    let cs = c.sum-sums.result.coefficients in
    let f : SFits w64 c.sum-sums.result.right = search rules in
    let s : Row = record { coefficients = take n cs; right = to_z w64 (of_z w64 c.sum-sums.result.right) } in
    let is = ap (λ z. record { coefficients = take n cs; right = z }) (to_z-of_z w64 c.sum-sums.result.right f) ∙ c.sum-sums.ensures n c.args.self.now.narrow in
    let same = length-take-le n cs (omega (arith, c.args.self.now.narrow, c.sum-sums.result.long)) in
    MatchResult-weaker c.divide.result c.divide.ensures (line_made n rows l (length (take n cs)) s e is same) (line_stopped n rows l (length (take n cs)) s e is)
