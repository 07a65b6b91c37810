use Rattle.std.proofs.Common.{ap, arith}
use Rattle.law.specs.Calls.Call.{cut}
use Rattle.law.specs.Spelt.{line_of}
use Rattle.law.specs.Table.{joined}
use Rattle.derivation.specs.StateView.{holding_of}
use Rattle.derivation.specs.TableView.{held_of}
use Rattle.derivation.proofs.StepsTaken.{cut_room, job_kept, step_pushed, was_open}
use Rattle.derivation.proofs.state.State.cut.Goals as goal

pub push-requires : goal.push-requires
push-requires c = let o = c.args.self.now.table in
    omega (arith, cut_room (held_of o).rows (line_of c.args.line.now) c.in_ok-row.ensures.passed)

pub returns : goal.returns
returns c =
    let s = c.args.self.now in let p = holding_of s in let t = c.push.new.self in let fixed = c.push.ensures.fixed in
    let m = c.in_ok-row.ensures in
    let open' = was_open s _ c.in_ok-check_open.ensures in
    λ th. record {
      step = step_pushed s th (cut (line_of c.args.line.now)) t fixed _ c.push.ensures.held open' m.passed (ap (joined p.table p.heights p.taken) m.is);
      job = job_kept s t s.taken fixed;
    }
