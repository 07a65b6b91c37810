use Rattle.std.proofs.Common.{[], ◌∷◌, ◌++◌, length, ap, ◌∙◌, ap₂, arith}
use Rattle.terms.specs.Stored.{row_of}
use Rattle.law.specs.Calls.Call.{chain}
use Rattle.law.specs.Spelt.{lines_of}
use Rattle.law.specs.Table.{joined}
use Rattle.derivation.specs.StateView.{holding_of}
use Rattle.derivation.specs.TableView.{Fixed, Held, held_of}
use Rattle.derivation.proofs.StepsTaken.{chain_room, job_kept, step_pushed, was_open}
use Rattle.derivation.proofs.state.State.chain.Goals as goal

pub push-requires : goal.push-requires
push-requires c = let o = c.args.self.now.table in
    omega (arith, ap (λ (h : Held). length h.rows) c.check_chain.ensures.held, chain_room (held_of o).rows (lines_of c.args.lines) c.in_ok-row.ensures.outcome.passed)

pub returns : goal.returns
returns c =
    let s = c.args.self.now in let p = holding_of s in let t = c.push.new.self in
    let row = c.in_ok-row.row in
    let fixed = c.push.ensures.fixed ∙ c.check_chain.ensures.fixed in
    let held = c.push.ensures.held ∙ ap₂ (λ (h : Held) (f : Fixed). record { rows = h.rows ++ row_of f.size row ∷ []; heights = h.heights; mark = h.mark }) c.check_chain.ensures.held c.check_chain.ensures.fixed in
    let m = c.in_ok-row.ensures.outcome in
    let open' = was_open s _ c.in_ok-check_open.ensures in
    λ th. record {
      step = step_pushed s th (chain (lines_of c.args.lines)) t fixed (row_of s.table.size row) held open' m.passed (ap (joined p.table p.heights p.taken) m.is);
      job = job_kept s t s.taken fixed;
    }
