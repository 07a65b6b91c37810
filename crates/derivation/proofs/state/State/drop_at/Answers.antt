use Rattle.std.proofs.Common.{Err, refl, ap, ◌∙◌}
use Rattle.std.proofs.lemmas.Result.{err_from_is_err_and}
use Rattle.terms.proofs.Passed.{passed, stopped}
use Rattle.law.specs.Calls.Call.{drop}
use Rattle.derivation.specs.StateView.{holding_of, job_in, moment_of}
use Rattle.derivation.specs.TableView.{shut_by}
use Rattle.derivation.proofs.StepsTaken.{changed_to, holding_is, job_kept, orderly, shut_as, step-accepted, step_refused, was_open}
use Rattle.derivation.proofs.state.State.drop_at.Goals as goal

pub returns-in_err-check_drop : goal.returns-in_err-check_drop
returns-in_err-check_drop c =
    let s = c.args.self.now in
    let e = err_from_is_err_and c.from_residual-in_err-check_drop.result c.from_residual-in_err-check_drop.ensures.1 in
    let open' = was_open s _ c.in_ok-check_open.ensures in
    let refused = stopped _ _ _ c.in_err-check_drop.ensures in
    λ th. record {
      step = ap (λ r. (moment_of s, r)) (e.1 ∙ ap Err e.2) ∙ step_refused (job_in s) th (holding_of s) (drop c.args.place) _ open' refused;
      job = refl;
    }

pub shut-requires : goal.shut-requires
shut-requires c = was_open c.args.self.now _ c.in_ok-check_open.ensures

pub returns : goal.returns
returns c =
    let s = c.args.self.now in
    let open' = was_open s _ c.in_ok-check_open.ensures in
    let clear = (passed _ _ _ c.in_ok-check_drop.ensures).0 in
    let t = c.shut.new.self in let p = holding_of s in let fixed = c.shut.ensures.fixed in
    λ th. record {
      step = step-accepted (job_in s) th p (drop c.args.place) (holding_of (changed_to s t s.taken fixed)) (orderly s) open' clear
          (holding_is s t s.taken fixed (shut_by (job_in s).rows p.table p.heights) c.shut.ensures.held ∙ shut_as (job_in s) p.table p.heights p.taken);
      job = job_kept s t s.taken fixed;
    }
