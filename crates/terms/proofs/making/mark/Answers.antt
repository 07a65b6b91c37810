use Rattle.std.proofs.Common.{get_or, pos, sym, ap, ◌∙◌, arith}
use Rattle.std.proofs.lemmas.List.{get_or_past}
use Rattle.terms.specs.Rows.{unit}
use Rattle.terms.proofs.ByPlace.{at_unit_same, at_unit_other, length-unit}
use Rattle.terms.proofs.making.mark.Goals as goal
use Rattle.terms.proofs.making.mark.Goals.{else-place-n-via-then-place-n+else-place-at, else-place-n-via-else-place-n}

pub returns-then-place-at : goal.returns-then-place-at
returns-then-place-at c =
    sym (ap (λ i. get_or (unit c.args.n i) c.args.place (pos 0)) (sym c.if-place-at.true) ∙ at_unit_same c.args.n c.args.place c.if-place-n.true)

pub returns-else-place-n : goal.returns-else-place-n
returns-else-place-n c =
    elim c.else-place-n.branch [
      | else-place-n-via-then-place-n+else-place-at w ↦ sym (at_unit_other c.args.n c.args.at c.args.place w.if-place-at.false)
      | else-place-n-via-else-place-n w ↦ sym (get_or_past (unit c.args.n c.args.at) c.args.place (pos 0) (omega (arith, length-unit c.args.n c.args.at, w.if-place-n.false)))
    ]
