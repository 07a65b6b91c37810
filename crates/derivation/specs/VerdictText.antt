-- How a verdict is printed.
use Rattle.std.specs.Prelude.{ℕ, List, ◌++◌, ℤ, Some, None, codes}
use Rattle.std.specs.Fmt.{signed_decimal}
use Rattle.std.specs.List.{flat_map}
use Rattle.law.specs.NumbersView.{values_of}
use Rattle.derivation.specs.declared.verdict.Verdict.{Verdict}
use Rattle.derivation.specs.declared.verdict.Verdict.TheVariants.{Least, NoModel, Unfinished}

-- a value after a blank
abbrev pub value_text : ℤ → List ℕ
value_text value = codes " " ++ signed_decimal value

-- `plan` and the values
abbrev pub plan_text : List ℤ → List ℕ
plan_text values = codes "plan" ++ flat_map value_text values

-- the word, with the cost where it is `least`, and a line below it the plan, if one was taken
abbrev pub verdict_text : Verdict → List ℕ
verdict_text (Least plan cost) = codes "least " ++ signed_decimal cost ++ codes "\n" ++ plan_text (values_of plan)
verdict_text NoModel = codes "none"
verdict_text (Unfinished None) = codes "unfinished"
verdict_text (Unfinished (Some plan)) = codes "unfinished\n" ++ plan_text (values_of plan)
