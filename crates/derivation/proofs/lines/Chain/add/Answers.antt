use Rattle.std.proofs.Common.{subst}
use Rattle.law.specs.Spelt.{line_of}
use Rattle.derivation.specs.Sums.{LineMade, table_of}
use Rattle.derivation.proofs.ChainedLines.{line_added, ok_through}
use Rattle.derivation.proofs.lines.Chain.add.Goals as goal

pub returns-clause-outcome : goal.returns-clause-outcome
returns-clause-outcome c =
    let n = c.args.self.now.size in let rows = c.args.self.now.rows.now.items in let l = line_of c.args.line.now in
    let made = ok_through _ _ _ c.make_line.result c.map_err.result c.in_ok-row.row c.map_err.ensures.cases c.in_ok-row.was c.make_line.ensures in
    line_added n rows c.push.new.self.items l c.in_ok-row.row c.push.ensures.items (subst (λ rs. LineMade n (table_of n rs) l c.in_ok-row.row) c.as_slice.ensures.value made)
