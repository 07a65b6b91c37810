-- A refusal as it is printed.
use Rattle.std.specs.Prelude.{ℕ, List, ◌∷◌, ◌++◌}
use Rattle.std.specs.Fmt.{decimal}
use lib.Chars.{codes}
use Rattle.terms.specs.Faults.{number}
use Rattle.files.specs.declared.fault.File.{File}
use Rattle.files.specs.declared.fault.File.TheVariants.{Job, Trace}
use Rattle.files.specs.declared.fault.FileFault.{FileFault}

-- the number by which a refusal names a file
abbrev pub number_of : File → ℕ
number_of Job = 1
number_of Trace = 2

-- a space, and a number
abbrev pub then_number : ℕ → List ℕ
then_number n = 32 ∷ decimal n

-- the word, then number, file, record, byte, line and spot
abbrev pub refusal_text : FileFault → List ℕ
refusal_text f = codes "refused" ++ then_number (number f.fault.cause) ++ then_number (number_of f.file) ++ then_number f.nth ++ then_number f.byte ++ then_number f.fault.line ++ then_number f.fault.spot
