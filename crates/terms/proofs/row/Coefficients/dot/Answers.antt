use Rattle.std.proofs.Common.{◌≡◌, ◌-◌, ◌+◌, ◌*◌, ◌≤◌, length, min, take, get_or, drop, pos, ◌+ℤ◌, nat_abs, sym, ap, ◌∙◌, arith, w32, w64, SFits, to_z, rules}
use Rattle.std.proofs.lemmas.Int.{ints}
use Rattle.std.proofs.lemmas.List.{length-take-le}
use Rattle.terms.specs.Rows.{dot}
use Rattle.terms.proofs.Sums.{dot_more, dot_past, dot_within, both_read, next_is, next_small}
use Rattle.terms.proofs.row.Coefficients.dot.Goals as goal

pub loop-i-preserved : goal.loop-i-preserved
loop-i-preserved c =
    let cs = c.args.self.now.items in let k = c.min.result in let xs = take k c.args.plan.now in let i = c.loop-i.i in
    let few = length-take-le k c.args.plan.now (omega arith) in
    let f : SFits w64 c.term-sum.result = search rules in
    let v = c.term-sum.ensures.value ∙ both_read (get_or cs i (pos 0)) (get_or xs i (pos 0)) (search rules) (search rules) in
    let m = dot_more cs xs i (omega (arith, few)) (omega arith) ∙ ap (λ p. p +ℤ dot (drop (i + 1) cs) (drop (i + 1) xs)) (sym v) in
    let total = dot cs xs in let here = dot (drop i cs) (drop i xs) in let rest = dot (drop (i + 1) cs) (drop (i + 1) xs) in (
      next_is total here rest c.term-sum.result (15 - i) c.loop-i.invariant.0 (omega (arith, few, c.loop-i.invariant.1)) f c.term-sum.ensures.bound m,
      (let s = next_small total here rest c.term-sum.result (15 - i) c.loop-i.invariant.0 (omega (arith, few, c.loop-i.invariant.1)) f c.term-sum.ensures.bound in omega (arith, few, s)),
    )

pub returns : goal.returns
returns c =
    let cs = c.args.self.now.items in let xs = c.args.plan.now in let k = c.min.result in
    let w = dot_within k cs xs (omega (arith, c.args.self.now.long)) in
    let p = dot_past cs (take k xs) c.loop-i.i (omega (arith, c.args.self.now.long)) in
    let e = c.loop-i.invariant.0 in
    omega (arith, ints)
