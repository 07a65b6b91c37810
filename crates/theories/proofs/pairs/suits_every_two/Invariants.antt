use Rattle.std.proofs.Common.{◌≡◌, length}
use Rattle.theories.specs.Pairs.{every_pair}
use Rattle.theories.proofs.pairs.suits_every_two.Given as goal

-- what is left decides
abbrev pub invariant-loop-rest : goal.invariant-loop-rest
invariant-loop-rest g l = every_pair (g.P.Part.suited l.plan) l.parts ≡ every_pair (g.P.Part.suited l.plan) l.rest

abbrev pub decreases-loop-rest : goal.decreases-loop-rest
decreases-loop-rest g l = length l.rest
