use Rattle.std.proofs.Common.{Err, sym, refl, ap, ◌∙◌}
use Rattle.std.proofs.lemmas.Result.{err_from_is_err_and}
use Rattle.terms.specs.declared.fault.Cause.TheVariants.{PointStaysOpen}
use Rattle.terms.specs.Faults.{unless}
use Rattle.terms.proofs.Passed.{passed, stopped}
use Rattle.law.specs.Calls.Call.{pin}
use Rattle.law.specs.Spelt.{places_of}
use Rattle.derivation.specs.ProofView.{meaning_held}
use Rattle.derivation.specs.StateView.{holding_of, job_in, moment_of}
use Rattle.derivation.specs.TableView.{shut_by}
use Rattle.derivation.proofs.PinChecked.{pin_fixed, pin_unfixed}
use Rattle.derivation.proofs.StepsTaken.{changed_to, holding_is, job_kept, orderly, shut_as, step-accepted, step_refused, was_open}
use Rattle.derivation.proofs.proof.Proof.pin.Goals as goal

pub returns-in_err-point : goal.returns-in_err-point
returns-in_err-point g c =
    let s = c.args.self.now.state in let ps = places_of c.args.places in let th = meaning_held g.T.Theory.reads g.T.Theory.means c.args.self.now in let p = holding_of s in
    let e = err_from_is_err_and c.from_residual-in_err-point.result c.from_residual-in_err-point.ensures.1 in
    let open' = was_open s _ c.in_ok-check_open.ensures in
    record {
      step = ap (λ r. (moment_of s, r)) (e.1 ∙ ap Err e.2) ∙ step_refused (job_in s) th p (pin ps) _ open' (pin_unfixed s th p.table p.taken ps _ c.in_err-point.ensures);
      job = refl;
      theory = refl;
    }

pub returns-in_err-need : goal.returns-in_err-need
returns-in_err-need g c =
    let s = c.args.self.now.state in let ps = places_of c.args.places in let th = meaning_held g.T.Theory.reads g.T.Theory.means c.args.self.now in let p = holding_of s in
    let e = err_from_is_err_and c.from_residual-in_err-need.result c.from_residual-in_err-need.ensures.1 in
    let open' = was_open s _ c.in_ok-check_open.ensures in
    let stays = ap (λ b. unless b PointStaysOpen 0) (sym c.shuts_at.ensures) ∙ stopped _ _ _ c.in_err-need.ensures in
    record {
      step = ap (λ r. (moment_of s, r)) (e.1 ∙ ap Err e.2)
          ∙ step_refused (job_in s) th p (pin ps) _ open' (pin_fixed s th p.table p.taken ps c.in_ok-point.point.items c.in_ok-point.ensures ∙ stays);
      job = refl;
      theory = refl;
    }

pub returns : goal.returns
returns g c =
    let s = c.args.self.now.state in let ps = places_of c.args.places in let th = meaning_held g.T.Theory.reads g.T.Theory.means c.args.self.now in let p = holding_of s in
    let open' = was_open s _ c.in_ok-check_open.ensures in
    let shuts = ap (λ b. unless b PointStaysOpen 0) (sym c.shuts_at.ensures) ∙ (passed _ _ _ c.in_ok-need.ensures).0 in
    let t = c.shut.new.self in let fixed = c.shut.ensures.fixed in
    record {
      step = step-accepted (job_in s) th p (pin ps) (holding_of (changed_to s t s.taken fixed)) (orderly s) open'
          (pin_fixed s th p.table p.taken ps c.in_ok-point.point.items c.in_ok-point.ensures ∙ shuts)
          (holding_is s t s.taken fixed (shut_by (job_in s).rows p.table p.heights) c.shut.ensures.held ∙ shut_as (job_in s) p.table p.heights p.taken);
      job = job_kept s t s.taken fixed;
      theory = refl;
    }
