use Rattle.std.proofs.Common.{◌≡◌, ◌-◌, ◌+◌, length, take, Some, Err, refl, subst, sym, ap, ◌∙◌, arith}
use mathlib.Core.Path.{subst⁻¹}
use Rattle.std.proofs.lemmas.Result.{err_from_is_err_and}
use Rattle.terms.specs.Faults.{first_fault}
use Rattle.terms.proofs.Passed.{refused_case}
use Rattle.law.specs.Lines.{in_line, line_checks}
use Rattle.law.specs.Spelt.{line_of, lines_of}
use Rattle.law.proofs.PremisesRead.{lines_long}
use Rattle.derivation.specs.Sums.{LineAdded, table_of}
use Rattle.derivation.proofs.ChainedLines.{Chaining, chaining_all, chaining_front, chaining_more, chaining_none, chaining_room, chaining_stopped}
use Rattle.derivation.proofs.lines.Chain.add_all.Goals as goal

pub loop-line-init : goal.loop-line-init
loop-line-init c =
    let n = c.args.self.now.size in let rows = c.args.self.now.rows.now.items in let ls = c.args.lines in let last = c.default-last.result in (
      tt,
      tt,
      refl,
      refl,
      c.requires.new,
      subst⁻¹ (λ it. Chaining n rows rows (lines_of ls) (lines_of it) last) c.into_iter-line-iterator.ensures.into_iter_gives
          (chaining_none n rows (lines_of ls) last (omega (arith, lines_long ls.count ls.bytes.now, c.requires.some))),
    )

pub add-requires : goal.add-requires
add-requires c =
    let ls = c.args.lines in let chaining = c.loop-line.invariant.5 in
    let room = chaining_room c.args.self.now.size c.args.self.now.rows.now.items c.loop-line.self.rows.now.items (lines_of ls) (lines_of c.loop-line.line-iterator) c.loop-line.last chaining (line_of c.in-Some.line) (lines_of c.next.new.self) c.in-Some.ensures.steps in
    record { high = omega (arith, c.loop-line.invariant.4, chaining.low); room = omega (arith, room, lines_long ls.count ls.bytes.now, c.requires.room, c.requires.new) }

pub returns-in_err-last : goal.returns-in_err-last
returns-in_err-last c =
    let n = c.args.self.now.size in let before = c.args.self.now.rows.now.items in let rows = c.loop-line.self.rows.now.items in let next = c.add.new.self.rows.now.items in
    let ls = lines_of c.args.lines in let left = lines_of c.loop-line.line-iterator in let l = line_of c.in-Some.line in let f = c.in_err-last.field-0.0 in
    let chaining = c.loop-line.invariant.5 in
    let at : in_line (length rows - length before + 1) (first_fault (line_checks (table_of n rows) l)) ≡ Some f =
    subst (λ k. in_line (length rows - k + 1) (first_fault (line_checks (table_of n rows) l)) ≡ Some f) c.loop-line.invariant.4
    (subst (λ m. in_line (length rows - c.loop-line.self.saved + 1) (first_fault (line_checks (table_of m rows) l)) ≡ Some f) c.loop-line.invariant.3 c.in_err-last.ensures.outcome) in
    let p = err_from_is_err_and c.from_residual.result c.from_residual.ensures.1 in
    record {
      table = c.add.ensures.table ∙ c.loop-line.invariant.2;
      saved = c.add.ensures.saved ∙ c.loop-line.invariant.4 ∙ sym c.requires.new;
      front = ap (λ k. take k next) c.requires.new ∙ chaining_front n before rows ls left c.loop-line.last chaining next c.add.ensures.front;
      outcome = refused_case _ _ _ f (p.1 ∙ ap Err p.2) (chaining_stopped n before rows ls left c.loop-line.last chaining l (lines_of c.next.new.self) c.in-Some.ensures.steps f at);
    }

pub loop-line-preserved : goal.loop-line-preserved
loop-line-preserved c =
    let n = c.args.self.now.size in let before = c.args.self.now.rows.now.items in let rows = c.loop-line.self.rows.now.items in let next = c.add.new.self.rows.now.items in
    let ls = lines_of c.args.lines in let left = lines_of c.loop-line.line-iterator in let l = line_of c.in-Some.line in let row = c.in_ok-last.last in
    let added : LineAdded n (table_of n rows) (table_of n next) l row = subst (λ m. LineAdded m (table_of m rows) (table_of m next) l row) c.loop-line.invariant.3 c.in_ok-last.ensures.outcome in (
      tt,
      tt,
      c.add.ensures.table ∙ c.loop-line.invariant.2,
      c.add.ensures.size ∙ c.loop-line.invariant.3,
      c.add.ensures.saved ∙ c.loop-line.invariant.4,
      chaining_more n before rows ls left c.loop-line.last c.loop-line.invariant.5 l (lines_of c.next.new.self) c.in-Some.ensures.steps next row c.add.ensures.front added,
    )

pub returns : goal.returns
returns c =
    let before = c.args.self.now.rows.now.items in let rows = c.loop-line.self.rows.now.items in
    record {
      table = c.loop-line.invariant.2;
      saved = c.loop-line.invariant.4 ∙ sym c.requires.new;
      front = ap (λ k. take k rows) c.requires.new ∙ c.loop-line.invariant.5.front;
      outcome = chaining_all c.args.self.now.size before rows (lines_of c.args.lines) (lines_of c.loop-line.line-iterator) c.loop-line.last c.loop-line.invariant.5 c.in-None.ensures.steps.0;
    }
