use Rattle.std.proofs.Common.{arith}
use Rattle.std.proofs.lemmas.Int.{ints}
use Rattle.terms.proofs.ByPlace.{at_difference, unit_mark}
use Rattle.terms.proofs.difference.Difference.coefficient.Goals as goal

pub overflow_sub-result : goal.overflow_sub-result
overflow_sub-result c =
    let b = unit_mark c.args.n c.args.self.now.first c.args.place in let d = unit_mark c.args.n c.args.self.now.second c.args.place in
    omega (arith, ints, b.0, b.1, d.0, d.1)

pub returns : goal.returns
returns c =
    let e = at_difference c.args.n c.args.self.now c.args.place in
    let b = unit_mark c.args.n c.args.self.now.first c.args.place in let d = unit_mark c.args.n c.args.self.now.second c.args.place in
    omega (arith, ints, b.0, b.1, d.0, d.1)
