use Rattle.std.proofs.Common.{◌<◌, [], ◌∷◌, ◌++◌, length, take, ap, sym, ◌∙◌, arith, rules}
use Rattle.std.proofs.lemmas.List.{length-take-le, take_more}
use Rattle.derivation.proofs.RulesAsked.{asked, asked_at, asked_few, asked_long, asked_there, rule_asked}
use Rattle.derivation.proofs.asking.read_rule.Goals as goal

pub returns-in_err-premise : goal.returns-in_err-premise
returns-in_err-premise g c =
    let o = (g.T.Theory.means c.args.theory.now).rule c.args.clue.now in
    absurd (asked_there o c.loop-index.index c.in_err-premise.field-0.0 (omega (arith, c.loop-index-test.true, asked_long o c.in_ok-count.count c.in_ok-count.ensures)) c.in_err-premise.ensures)

pub push-requires : goal.push-requires
push-requires g c =
    let th = g.T.Theory.means c.args.theory.now in let o = th.rule c.args.clue.now in let i = c.loop-index.index in
    let few = asked_few th.admits o (g.met.T.Theory.lawful c.args.theory.now c.args.clue.now) in
    let l : i < length (asked o) = omega (arith, c.loop-index-test.true, asked_long o c.in_ok-count.count c.in_ok-count.ensures) in
    (omega arith, omega (arith, few, l, ap length c.loop-index.invariant ∙ length-take-le i (asked o) (omega arith)))

pub loop-index-preserved : goal.loop-index-preserved
loop-index-preserved g c =
    let o = (g.T.Theory.means c.args.theory.now).rule c.args.clue.now in let i = c.loop-index.index in let d = c.in_ok-premise.field-0 in
    let l : i < length (asked o) = omega (arith, c.loop-index-test.true, asked_long o c.in_ok-count.count c.in_ok-count.ensures) in
    c.push.ensures.items ∙ ap (λ ps. ps ++ d ∷ []) c.loop-index.invariant ∙ ap (λ e. take i (asked o) ++ e ∷ []) (asked_at o i d c.in_ok-premise.ensures) ∙ sym (take_more (asked o) i d l)

pub returns : goal.returns
returns g c =
    let o = (g.T.Theory.means c.args.theory.now).rule c.args.clue.now in
    rule_asked o c.in_ok-count.count c.loop-index.index _ c.loop-index.premises.items c.in_ok-count.ensures (search (rules, c.in_ok-conclusion.ensures)) (omega (arith, c.loop-index-test.false)) c.loop-index.invariant
