-- What a verdict stands for, and what a look at a proof shows.
use Rattle.std.specs.Prelude.{ℕ, ◌+◌, List, [], ◌∷◌, length}
use Rattle.law.specs.Jobs.{Job}
use Rattle.law.specs.Pile.{Subproblem, Verdict}
use Rattle.law.specs.Pile.Verdict.{least, none, unfinished}
use Rattle.law.specs.NumbersView.{values_of, values_in}
use Rattle.derivation.specs.declared.verdict.Verdict.{Verdict as Said}
use Rattle.derivation.specs.declared.verdict.Verdict.TheVariants.{Least, NoModel, Unfinished}

abbrev pub verdict_of : Said → Verdict
verdict_of (Least p c) = least (values_of p) c
verdict_of NoModel = none
verdict_of (Unfinished p) = unfinished (values_in p)

-- the number of rows and of open subproblems; where nothing is open the rows are the job's
abbrev pub looked_at : Job → List Subproblem → ℕ × ℕ
looked_at j [] = (length j.rows, 0)
looked_at j (t ∷ rest) = (length t, length rest + 1)
