use Rattle.std.proofs.Common.{◌≡◌, Some, None, Ok, Option, refl, ap, ◌∙◌}
use Rattle.terms.proofs.Passed.{clash}
use Rattle.theories.specs.Meaning.{clued, rule_of}
use Rattle.derivation.specs.ProofView.{meaning_held}
use Rattle.derivation.proofs.proof.Proof.infer.Goals as goal

-- the bytes spell the clue that was read
clue_is : {C : Type 0} (o : Option C) (clue : C) → Ok clue ≡ clued o → o ≡ Some clue
clue_is None clue e = clash (cc)
clue_is (Some other) clue e = cc

pub returns : goal.returns
returns g c =
    let p = c.args.self.now in let m = g.T.Theory.means p.theory in
    let is = ap (rule_of m.rule) (clue_is _ _ c.in_ok-clue.ensures) ∙ c.in_ok-rule.ensures in
    let w = c.infer.ensures (meaning_held g.T.Theory.reads g.T.Theory.means p) c.args.clue.now is in record { step = w.step; job = w.job; theory = refl }
