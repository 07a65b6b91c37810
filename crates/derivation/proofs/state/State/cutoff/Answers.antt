use Rattle.std.proofs.Common.{◌≡◌, ◌≤◌, [], ℤ, pos, ◌-ℤ◌, nat_abs, sym, ap, ◌∙◌, arith, w64, to_z, of_z}
use Rattle.std.proofs.lemmas.Int.{ints}
use Rattle.terms.specs.Faults.{first_fault}
use Rattle.terms.specs.Rows.{Row}
use Rattle.terms.proofs.Passed.{pass_one, passed}
use Rattle.law.specs.Calls.Call.{cutoff}
use Rattle.law.specs.Steps.{cutoff_checks, cutoff_row}
use Rattle.law.specs.Table.{joined}
use Rattle.derivation.specs.StateView.{holding_of, job_in, plan_of}
use Rattle.derivation.proofs.StepsTaken.{has_room, job_kept, step_pushed, was_open}
use Rattle.derivation.proofs.state.State.cutoff.Goals as goal

less_one : (z y : ℤ) → nat_abs z ≤ 16000000000000 → z ≡ y → to_z w64 (of_z w64 (to_z w64 (of_z w64 z) -ℤ pos 1)) ≡ (y -ℤ pos 1)
less_one z y h e = omega (arith, ints)

pub returns : goal.returns
returns c =
    let s = c.args.self.now in let p = holding_of s in let t = c.push.new.self in let fixed = c.push.ensures.fixed in
    let z = c.cost-right.result in
    let open' = was_open s _ c.in_ok-check_open.ensures in
    let some = ap (plan_of s.table.size) c.in_ok-plan.ensures.ok_part in
    let row : Row = record { coefficients = (job_in s).costs; right = to_z w64 (of_z w64 (to_z w64 (of_z w64 z) -ℤ pos 1)) } in
    let is : row ≡ cutoff_row (job_in s) p.taken = ap (λ y. record { coefficients = (job_in s).costs; right = y }) (less_one z _ c.cost-right.ensures.bound c.cost-right.ensures.value) ∙ sym (ap (cutoff_row (job_in s)) some) in
    let room = has_room p.table c.len.result c.len.ensures (passed _ _ _ c.in_ok-need.ensures).0 in
    λ th. record {
      step = step_pushed s th cutoff t fixed row c.push.ensures.held open' (ap (λ o. first_fault (cutoff_checks p.table o)) some ∙ pass_one _ [] room) (ap (joined p.table p.heights p.taken) is);
      job = job_kept s t s.taken fixed;
    }
