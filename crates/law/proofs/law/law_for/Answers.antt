use Rattle.law.proofs.Derivations.{bytes_lawful, law}
use Rattle.law.proofs.law.law_for.Goals as goal

pub returns : goal.returns
returns g c = λ j. law j _ (bytes_lawful _ _ (g.met.T.Theory.lawful _))
