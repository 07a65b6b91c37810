use Rattle.std.proofs.Common.{◌≤◌, take, pos, nat_abs, sym, ◌∙◌, arith, w64, SFits, rules}
use Rattle.std.proofs.lemmas.List.{length-take-le}
use Rattle.std.proofs.lemmas.Int.{to_z-of_z}
use Rattle.terms.proofs.Places.{at_front}
use Rattle.terms.proofs.Sums.{dot_front}
use Rattle.derivation.proofs.CostBound.{dot_near}
use Rattle.derivation.proofs.state.State.cost.Goals as goal

pub returns : goal.returns
returns c =
    let s = c.args.self.now in let n = s.table.size in let cs = s.costs.items in let xs = c.args.plan.now.items in
    let f : SFits w64 c.dot.result = search rules in
    let l = length-take-le n xs (omega (arith, s.table.narrow, c.args.plan.now.long)) in
    let e = to_z-of_z w64 c.dot.result f ∙ c.dot.ensures in
    let near = dot_near cs (take n xs) s.costs.small (at_front (λ a. nat_abs a ≤ 1000000) n xs (pos 0) (omega arith) c.args.plan.now.small) in
    record {
      value = e ∙ sym (dot_front n cs (take n xs) (omega (arith, l)));
      bound = rw e (omega (arith, near, l, s.table.narrow));
    }
