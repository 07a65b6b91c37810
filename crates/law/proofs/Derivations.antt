-- The law of derivations holds of every job and every lawful theory.
use mathlib.Core.Path.{subst⁻¹}
use Rattle.std.proofs.Common.{ℕ, List, Some, None, Option}
use Rattle.theories.specs.Meaning.{IfAny, Lawful, Meaning, on_bytes, rule_of}
use Rattle.law.specs.Jobs.{Job}
use Rattle.law.specs.Pile.{Moment}
use Rattle.law.specs.Law.{ClosingTrue, Kept, Law, NoModelLost}
use Rattle.law.proofs.Closing.{closes}
use Rattle.law.proofs.Finish.{can_finish}
use Rattle.law.proofs.Keeps.{kept_after}
use Rattle.law.proofs.Outcomes.{one_outcome}

module _ (j : Job) (th : Meaning (List ℕ)) (lawful : Lawful th) where
  pub no_model_lost : NoModelLost j th
  no_model_lost calls m r = subst⁻¹ (λ (m : Moment). Kept j th m) ((one_outcome j th calls m).0 r) (kept_after j th lawful calls)

  pub closing_true : ClosingTrue j th
  closing_true calls m r = closes j th m.pile m.taken (no_model_lost calls m r)

  pub law : Law j th
  law = record { one_outcome = one_outcome j th; no_model_lost = no_model_lost; closing_true = closing_true; can_finish = can_finish j th }

-- ---- clues as bytes
rule_lawful : {C : Type 0} (m : Meaning C) → Lawful m → (o : Option C) → IfAny m.admits (rule_of m.rule o)
rule_lawful m h None = tt
rule_lawful m h (Some clue) = h clue

pub bytes_lawful : {C : Type 0} (reads : List ℕ → Option C) (m : Meaning C) → Lawful m → Lawful (on_bytes reads m)
bytes_lawful reads m h bytes = rule_lawful m h (reads bytes)
