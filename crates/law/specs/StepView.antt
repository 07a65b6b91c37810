-- The call that a step stands for.
use Rattle.law.specs.declared.step.Step.{Step}
use Rattle.law.specs.declared.step.Step.TheVariants.{Branch, Cut, Chain, Infer, Cutoff, Take, Drop, Pin}
use Rattle.law.specs.Calls.{Call}
use Rattle.law.specs.Calls.Call.{branch, cut, chain, infer, cutoff, take, drop, pin}
use Rattle.law.specs.Spelt.{line_of, lines_of, places_of}
use Rattle.law.specs.NumbersView.{values_of}

abbrev pub call_of : Step → Call
call_of (Branch coefficients right) = branch (record { coefficients = values_of coefficients; right = right })
call_of (Cut line) = cut (line_of line)
call_of (Chain lines) = chain (lines_of lines)
call_of (Infer clue places) = infer clue.now (places_of places)
call_of Cutoff = cutoff
call_of (Take values) = take (values_of values)
call_of (Drop place) = drop place
call_of (Pin places) = pin (places_of places)
