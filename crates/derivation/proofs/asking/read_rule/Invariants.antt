use Rattle.std.proofs.Common.{◌≡◌, take}
use Rattle.derivation.proofs.RulesAsked.{asked}
use Rattle.derivation.proofs.asking.read_rule.Given as goal

-- the premises asked for so far
abbrev pub invariant-loop-index : goal.invariant-loop-index
invariant-loop-index g l = l.premises.items ≡ take l.index (asked ((g.T.Theory.means l.theory).rule l.clue))
