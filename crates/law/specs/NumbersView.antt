-- The numbers that a short list stands for.
use Rattle.std.specs.Prelude.{min, take, Some, None, Option}
use Rattle.terms.specs.Rows.{Plan}
use Rattle.law.specs.declared.numbers.Numbers.{Numbers}

abbrev pub values_of : Numbers → Plan
values_of p = take (min p.count 16) p.items

abbrev pub values_in : Option Numbers → Option Plan
values_in None = None
values_in (Some p) = Some (values_of p)
