-- Files of records, one after another, to the record that ends them.
use Rattle.std.specs.Prelude.{ℕ, zero, suc, ◌+◌, ◌-◌, Bool, cond, List, length, Ok, Err, Result, ◌==◌, nat_le}
use Rattle.terms.specs.declared.fault.Cause.TheVariants.{FileTooLong, TrailingBytes}
use Rattle.terms.specs.declared.fault.Fault.{Fault}
use Rattle.terms.specs.Faults.{answered, otherwise, unless}
use Rattle.files.specs.declared.fault.File.{File}
use Rattle.files.specs.declared.fault.FileFault.{FileFault}
use Rattle.fields.specs.Bytes.{ends}
use Rattle.files.specs.Places.{fault_at, placed, then_file}

-- how a file is read: which it is, whether its end has been read, and what a record makes of what is read so far
pub record Way (S : Type 0) : Type 0 where
  pub file : File
  pub ended : S → Bool
  pub one : S → List ℕ → Result (S × List ℕ) Fault

-- a file that has been read ends with its last record
abbrev pub at_end : {S : Type 0} → Way S → ℕ → ℕ → S → List ℕ → Result S FileFault
at_end way total nth s bytes = placed way.file nth (total - length bytes) (otherwise (unless (length bytes == 0) TrailingBytes 0) s)

abbrev pub and_records : {S : Type 0} → (S → List ℕ → Result S FileFault) → Result (S × List ℕ) FileFault → Result S FileFault
and_records go (Err f) = Err f
and_records go (Ok p) = go p.0 p.1

-- the records from the nth on; their number is at most `fuel`, since each has a byte at least
abbrev pub records_read : {S : Type 0} → Way S → ℕ → ℕ → ℕ → S → List ℕ → Result S FileFault
records_read way total zero nth s bytes = Err (fault_at way.file nth (total - length bytes) ends)
records_read way total (suc fuel) nth s bytes =
    cond (way.ended s) (at_end way total nth s bytes) (and_records (records_read way total fuel (nth + 1)) (placed way.file nth (total - length bytes) (way.one s bytes)))

unfoldable pub all_records : {S : Type 0} → Way S → S → List ℕ → Result S FileFault
all_records way start bytes = records_read way (length bytes) (suc (length bytes)) 0 start bytes

-- at most 65,536 bytes: what they make of the start, or the first fault and its place
abbrev pub file_read : {S : Type 0} → Way S → S → List ℕ → Result S FileFault
file_read way start bytes =
    then_file (placed way.file 0 0 (answered (unless (nat_le (length bytes) 65536) FileTooLong 0)))
    (λ fits. all_records way start bytes)
