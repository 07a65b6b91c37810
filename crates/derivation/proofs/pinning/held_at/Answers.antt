use Rattle.std.proofs.Common.{pos, ap, ◌∙◌, ap₂}
use Rattle.terms.specs.Stored.{row_of}
use Rattle.law.specs.Bounds.{bound, only_value}
use Rattle.derivation.proofs.HeldVariables.{above_unit, below_unit}
use Rattle.derivation.proofs.pinning.held_at.Goals as goal

pub returns : goal.returns
returns c =
    let n = c.args.n in let i = c.args.variable in
    c.only_value.ensures
    ∙ ap₂ only_value
    (c.bound-most.ensures ∙ ap (λ cs. bound cs (row_of n c.args.above.now)) (above_unit n i (pos 0) c.requires.narrow))
    (c.bound-least.ensures ∙ ap (λ cs. bound cs (row_of n c.args.below.now)) (below_unit n i (pos 0) c.requires.narrow))
