-- What the law of derivations tells of a verdict.
use Rattle.std.proofs.Common.{ℕ, List, Some}
use Rattle.theories.specs.Meaning.{Meaning}
use Rattle.law.specs.Jobs.{Job}
use Rattle.law.specs.Law.{Closes, Kept}
use Rattle.law.specs.Pile.{Moment, Verdict}
use Rattle.files.specs.Shown.{Shown}

pub shown_by : (j : Job) (th : Meaning (List ℕ)) (m : Moment) (v : Verdict) → Kept j th m → Closes j th m v → Shown j th v
shown_by j th m v kept closes = record {
  least_model = λ y c e. kept.taken_model y ((closes.least_when y c).0 e).1;
  least_cost = λ y c e. ((closes.least_when y c).0 e).2;
  least_of_all = λ y c e. closes.least_then y c e;
  no_model = λ e. closes.none_then e;
  so_far = λ y e. kept.taken_model y ((closes.unfinished_when (Some y)).0 e).1;
}
