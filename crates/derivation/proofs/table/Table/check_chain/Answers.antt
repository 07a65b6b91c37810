use Rattle.std.proofs.Common.{map, length, take, Err, sym, refl, ap, ◌∙◌}
use Rattle.std.proofs.lemmas.Result.{MatchResult-weaker, err_from_is_err_and}
use Rattle.terms.specs.declared.fault.Cause.TheVariants.{WrongLength}
use Rattle.terms.specs.Faults.{unless}
use Rattle.terms.specs.Stored.{row_of}
use Rattle.terms.proofs.Passed.{passed, refused_case, stopped}
use Rattle.law.specs.Spelt.{lines_of}
use Rattle.law.proofs.PremisesRead.{lines_long}
use Rattle.derivation.specs.Stacked.{heights_of, rights_of, stacked}
use Rattle.derivation.specs.TableView.{held_of}
use Rattle.derivation.proofs.ChainChecked.{count_stopped, lines_made, lines_stopped, room_stopped}
use Rattle.derivation.proofs.StepsTaken.{rows_long}
use Rattle.derivation.proofs.table.Table.check_chain.Goals as goal

pub returns-in_err-need : goal.returns-in_err-need
returns-in_err-need c =
    let o = c.args.self.now in let ls = c.args.lines in
    let p = err_from_is_err_and c.from_residual.result c.from_residual.ensures.1 in
    record {
      held = refl;
      fixed = refl;
      outcome = refused_case _ _ _ c.in_err-need.field-0.0 (p.1 ∙ ap Err p.2)
          (count_stopped (held_of o).rows (lines_of ls) (length o.rows.items) ls.count (sym (rows_long o)) (lines_long ls.count ls.bytes.now) _ (ap (λ b. unless b WrongLength 0) (sym c.is_between.ensures) ∙ stopped _ _ _ c.in_err-need.ensures));
    }

pub returns-in_err-need-2 : goal.returns-in_err-need-2
returns-in_err-need-2 c =
    let o = c.args.self.now in let ls = c.args.lines in
    let p = err_from_is_err_and c.from_residual-in_err-need-2.result c.from_residual-in_err-need-2.ensures.1 in
    record {
      held = refl;
      fixed = refl;
      outcome = refused_case _ _ _ c.in_err-need-2.field-0.0 (p.1 ∙ ap Err p.2)
          (room_stopped (held_of o).rows (lines_of ls) c.len.result ls.count (c.len.ensures.value ∙ sym (rows_long o)) (lines_long ls.count ls.bytes.now) (ap (λ b. unless b WrongLength 0) (sym c.is_between.ensures) ∙ (passed _ _ _ c.in_ok-need.ensures).0) _ (stopped _ _ _ c.in_err-need-2.ensures));
    }

pub invariant_of-self : goal.invariant_of-self
invariant_of-self c =
    let o = c.args.self.now in let hs = heights_of o.waiting in
    record { narrow = o.narrow; stack = ap (λ rs. stacked o.given (rights_of rs) (length rs) hs) c.chain_row.ensures.rows ∙ o.stack }

pub returns : goal.returns
returns c =
    let o = c.args.self.now in let ls = c.args.lines in let e = c.chain_row.ensures in let h = held_of o in
    let some = ap (λ b. unless b WrongLength 0) (sym c.is_between.ensures) ∙ (passed _ _ _ c.in_ok-need.ensures).0 in
    let room = (passed _ _ _ c.in_ok-need-2.ensures).0 in
    let high = c.len.ensures.value ∙ sym (rows_long o) in let long = lines_long ls.count ls.bytes.now in
    record {
      held = ap (λ rs. record { rows = map (row_of o.size) rs; heights = h.heights; mark = h.mark }) e.rows;
      fixed = ap (λ rs. record { size = o.size; given = map (row_of o.size) (take o.given rs) }) e.rows;
      outcome = MatchResult-weaker c.chain_row.result e.outcome (lines_made h.rows (lines_of ls) c.len.result ls.count high long some room o.size) (lines_stopped h.rows (lines_of ls) c.len.result ls.count high long some room);
    }
