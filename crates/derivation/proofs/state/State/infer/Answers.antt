use Rattle.std.proofs.Common.{Err, sym, refl, ap, ◌∙◌, ap₂}
use Rattle.std.proofs.lemmas.Result.{err_from_is_err_and}
use Rattle.terms.specs.Faults.{first_fault}
use Rattle.terms.specs.Stored.{row_of}
use Rattle.terms.proofs.Passed.{passed, stopped}
use Rattle.law.specs.Calls.Call.{infer}
use Rattle.law.specs.Spelt.{places_of}
use Rattle.law.specs.Steps.{rule_checks, rule_row}
use Rattle.law.specs.Table.{joined}
use Rattle.derivation.specs.RuleView.{rule_held}
use Rattle.derivation.specs.StateView.{holding_of, job_in, moment_of}
use Rattle.derivation.proofs.RulesChecked.{conclusion_row, is_there, rule_room}
use Rattle.derivation.proofs.StepsTaken.{job_kept, size_in, step_pushed, step_refused}
use Rattle.derivation.proofs.state.State.infer.Goals as goal

pub returns-in_err-check_rule : goal.returns-in_err-check_rule
returns-in_err-check_rule c =
    let s = c.args.self.now in let p = holding_of s in let ps = places_of c.args.places.now in
    let e = err_from_is_err_and c.from_residual.result c.from_residual.ensures.1 in
    let refused = stopped _ _ _ c.in_err-check_rule.ensures in
    λ th clue is. record {
      step = ap (λ r. (moment_of s, r)) (e.1 ∙ ap Err e.2)
          ∙ step_refused (job_in s) th p (infer clue ps) _ c.requires (ap₂ (λ m u. first_fault (rule_checks m p.table u ps)) (size_in s) is ∙ refused);
      job = refl;
    }

pub unreachable-requires : goal.unreachable-requires
unreachable-requires c = is_there _ _ c.args.rule.now.limited c.in_default.ensures

pub unreachable : goal.unreachable
unreachable c = is_there _ _ c.args.rule.now.limited c.in_default.ensures

pub push-requires : goal.push-requires
push-requires c =
    let s = c.args.self.now in
    let room = rule_room s.table.size (holding_of s).table (rule_held c.args.rule.now) (places_of c.args.places.now) (passed _ _ _ c.in_ok-check_rule.ensures).0 in
    room

pub returns : goal.returns
returns c =
    let s = c.args.self.now in let p = holding_of s in let n = s.table.size in let k = c.args.rule.now in let ps = places_of c.args.places.now in
    let t = c.push.new.self in let fixed = c.push.ensures.fixed in let r = c.in-Some.row in
    let clear = (passed _ _ _ c.in_ok-check_rule.ensures).0 in
    let is = conclusion_row n k r s.table.narrow c.in-Some.ensures in
    λ th clue e. record {
      step = step_pushed s th (infer clue ps) t fixed (row_of n r) c.push.ensures.held c.requires
          (ap₂ (λ m u. first_fault (rule_checks m p.table u ps)) (size_in s) e ∙ clear)
          (ap (joined p.table p.heights p.taken) (is ∙ sym (ap₂ rule_row (size_in s) e)));
      job = job_kept s t s.taken fixed;
    }
