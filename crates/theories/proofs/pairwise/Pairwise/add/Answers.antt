use Rattle.std.proofs.Common.{not, [], ◌∷◌, Err, sym, ap, ◌∙◌}
use Rattle.std.proofs.lemmas.Result.{err_from_is_err_and}
use Rattle.terms.specs.declared.fault.Cause.TheVariants.{Full}
use Rattle.terms.specs.Faults.{first_fault, unless}
use Rattle.terms.proofs.Passed.{pass_list, pass_one, passed, stop_list, stop_one, stopped}
use Rattle.terms.proofs.Places.{changed_as}
use Rattle.theories.proofs.Added.{refused_add}
use Rattle.theories.proofs.Told.{has_room}
use Rattle.theories.proofs.pairwise.Pairwise.add.Goals as goal

pub returns-in_err-check : goal.returns-in_err-check
returns-in_err-check g c =
    let p = err_from_is_err_and c.from_residual.result c.from_residual.ensures.1 in
    refused_add _ _ _ _ c.in_err-check.field-0.0 (stop_list (g.P.RuledPart.kind.limits c.args.part) _ _ (stopped _ _ tt c.in_err-check.ensures)) (p.1 ∙ ap Err p.2)

pub returns-in_err-need : goal.returns-in_err-need
returns-in_err-need g c =
    let p = err_from_is_err_and c.from_residual-in_err-need.result c.from_residual-in_err-need.ensures.1 in
    let alone = (passed _ _ _ c.in_ok-check.ensures).0 in
    let room = sym (has_room _ c.is_full.ensures.fits) ∙ sym (ap not c.is_full.ensures.value) in
    refused_add _ _ _ _ c.in_err-need.field-0.0
    (pass_list (g.P.RuledPart.kind.limits c.args.part) _ alone ∙ ap (λ b. first_fault (unless b Full 0 ∷ [])) room ∙ stop_one _ _ _ (stopped _ _ tt c.in_err-need.ensures))
    (p.1 ∙ ap Err p.2)

pub returns : goal.returns
returns g c =
    let alone = (passed _ _ _ c.in_ok-check.ensures).0 in
    let room = sym (has_room _ c.is_full.ensures.fits) ∙ sym (ap not c.is_full.ensures.value) in
    changed_as _ _ _ _
    (pass_list (g.P.RuledPart.kind.limits c.args.part) _ alone ∙ ap (λ b. first_fault (unless b Full 0 ∷ [])) room ∙ pass_one _ _ (passed _ _ _ c.in_ok-need.ensures).0)
    c.push.ensures.items
