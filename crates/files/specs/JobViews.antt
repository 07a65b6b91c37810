-- The readings that a job file's reader stands for.
use Rattle.std.specs.Prelude.{ℕ, List, Ok, Err, Result}
use Rattle.std.specs.Borrow.{Bor}
use Rattle.terms.specs.declared.fault.Fault.{Fault}
use Rattle.files.specs.declared.theory.FileTheory.{FileTheory}
use Rattle.files.specs.declared.theory.FileTheory.TheVariants.{Bare, Shared, OneVat}
use Rattle.law.specs.Jobs.{Job}
use Rattle.derivation.specs.JobView.{job_of}
use Rattle.files.specs.declared.fault.FileFault.{FileFault}
use Rattle.files.specs.declared.reader.JobFile.{JobFile}
use Rattle.files.specs.declared.reader.JobReader.{JobReader}
use Rattle.files.specs.declared.records.Kind.{Kind}
use Rattle.files.specs.declared.records.Phase.{Phase}
use Rattle.files.specs.JobFiles.{Reading, TheoryParts, bare, shared, one_vat}

abbrev pub parts_of : FileTheory → TheoryParts
parts_of Bare = bare
parts_of (Shared t) = shared t.parts.items
parts_of (OneVat t) = one_vat t.parts.items

-- what is left after a call, with the rest of the file
abbrev pub leaving : {X : Type 0} → X → Result (Bor (List ℕ)) Fault → Result (X × List ℕ) Fault
leaving x (Ok rest) = Ok (x, rest.now)
leaving x (Err f) = Err f

abbrev pub reading_of : JobReader → Reading
reading_of r = record { phase = r.phase; job = job_of r.file.job; parts = parts_of r.file.theory }

-- the phase that a letter leads to, with the record's kind
abbrev pub moved : Phase → Result Kind Fault → Result (Phase × Kind) Fault
moved phase (Ok kind) = Ok (phase, kind)
moved phase (Err f) = Err f

-- what a job file that was read stands for
abbrev pub spelt : Result JobFile FileFault → Result (Job × TheoryParts) FileFault
spelt (Ok f) = Ok (job_of f.job, parts_of f.theory)
spelt (Err f) = Err f
