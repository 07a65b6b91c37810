-- Faults and where in a file they lie.
use Rattle.std.specs.Prelude.{ℕ, List, drop, Ok, Err, Result}
use Rattle.terms.specs.declared.fault.Fault.{Fault}
use Rattle.files.specs.declared.fault.File.{File}
use Rattle.files.specs.declared.fault.File.TheVariants.{Job, Trace}
use Rattle.files.specs.declared.fault.FileFault.{FileFault}

abbrev pub fault_at : File → ℕ → ℕ → Fault → FileFault
fault_at file nth byte f = record { fault = f; file = file; nth = nth; byte = byte }

-- a fault gains its place, and stays whole
abbrev pub placed : {X : Type 0} → File → ℕ → ℕ → Result X Fault → Result X FileFault
placed file nth byte (Ok x) = Ok x
placed file nth byte (Err f) = Err (fault_at file nth byte f)

abbrev pub then_file : {X Y : Type 0} → Result X FileFault → (X → Result Y FileFault) → Result Y FileFault
then_file (Ok x) next = next x
then_file (Err f) next = Err f

-- the one of two files that a fault lies in
abbrev pub file_of : File → List ℕ → List ℕ → List ℕ
file_of Job job trace = job
file_of Trace job trace = trace

-- the bytes of that file from the fault's record on; none past its end
abbrev pub rest_of : FileFault → List ℕ → List ℕ → List ℕ
rest_of f job trace = drop f.byte (file_of f.file job trace)
