-- What adding a part answers.
use Rattle.std.proofs.Common.{◌≡◌, Some, Err, Option, Result, sym, ap, ◌∙◌}
use Rattle.terms.specs.declared.fault.Fault.{Fault}
use Rattle.terms.specs.Faults.{changed}

-- a call that was refused leaves what was there
pub refused_add : {X : Type 0} (o : Option Fault) (before after : X) (answer : Result (Unit {0}) Fault) (f : Fault) → o ≡ Some f → answer ≡ Err f → ◌≡◌ {A = X × Result (Unit {0}) Fault} (before, answer) (changed o before after)
refused_add o before after answer f e is = ap (λ r. (before, r)) is ∙ sym (ap (λ p. changed p before after) e)
