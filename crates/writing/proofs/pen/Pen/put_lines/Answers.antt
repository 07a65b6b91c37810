use Rattle.std.proofs.Common.{List, [], ◌∷◌, ◌++◌, sym, ap, ◌∙◌, subst}
use Rattle.std.proofs.lemmas.List.{append_assoc, append-nil}
use Rattle.law.specs.Calls.{Line}
use Rattle.law.specs.Spelt.{line_of, lines_of}
use Rattle.spelling.specs.StepsWritten.{line_bytes, lines_bytes, lines_counted}
use Rattle.writing.specs.Laid.{HasRoom, Lays}
use Rattle.writing.proofs.LaidBytes.{lays_none, next_laid, next_room}
use Rattle.writing.proofs.LinesLeft.{next-counted}
use Rattle.writing.proofs.pen.Pen.put_lines.Goals as goal

pub loop-line-init : goal.loop-line-init
loop-line-init c = ([], ap lines_of c.into_iter-line-iterator.ensures.into_iter_gives, lays_none c.args.self.now)

pub put_line-requires-clause-counted : goal.put_line-requires-clause-counted
put_line-requires-clause-counted c =
    let i = c.loop-line.invariant in let l = line_of c.in-Some.line in
    let all' = ap (λ (ls : List Line). i.0 ++ ls) (sym c.in-Some.ensures.steps) ∙ i.1 in
    next-counted i.0 l (lines_of c.next.new.self) (ap lines_counted all' ∙ c.requires.counted)

pub put_line-requires-clause-room : goal.put_line-requires-clause-room
put_line-requires-clause-room c =
    let i = c.loop-line.invariant in let l = line_of c.in-Some.line in
    let all' = ap (λ (ls : List Line). i.0 ++ ls) (sym c.in-Some.ensures.steps) ∙ i.1 in
    next_room line_bytes i.0 l (lines_of c.next.new.self) (subst (λ (ls : List Line). HasRoom c.args.self.now (lines_bytes ls)) (sym all') c.requires.room) i.2

pub loop-line-preserved : goal.loop-line-preserved
loop-line-preserved c =
    let i = c.loop-line.invariant in let l = line_of c.in-Some.line in
    let all' = ap (λ (ls : List Line). i.0 ++ ls) (sym c.in-Some.ensures.steps) ∙ i.1 in (
      i.0 ++ l ∷ [],
      append_assoc i.0 (l ∷ []) (lines_of c.next.new.self) ∙ all',
      next_laid line_bytes i.0 l (lines_of c.next.new.self) (subst (λ (ls : List Line). HasRoom c.args.self.now (lines_bytes ls)) (sym all') c.requires.room) i.2 c.put_line.ensures,
    )

pub returns : goal.returns
returns c =
    let i = c.loop-line.invariant in
    let all' = sym (append-nil i.0) ∙ ap (λ (ls : List Line). i.0 ++ ls) (sym c.in-None.ensures.steps.0) ∙ i.1 in
    subst (λ (ls : List Line). Lays c.args.self.now (lines_bytes ls) c.loop-line.self) all' i.2
