-- The check of two files: the job file whole, then the trace, then closing.
use Rattle.std.specs.Prelude.{ℕ, List, Ok, Err, Result}
use Rattle.theories.specs.Bare.{bare as bareMeaning, no_bytes}
use Rattle.theories.specs.Clues.{two_bytes}
use Rattle.theories.specs.Meaning.{Meaning, on_bytes}
use Rattle.theories.specs.OneVat.{one_vat as oneVatMeaning}
use Rattle.theories.specs.SharedResults.{shared_results}
use Rattle.law.specs.Jobs.{Job}
use Rattle.law.specs.Law.{Law}
use Rattle.law.specs.Pile.{Verdict}
use Rattle.files.specs.declared.fault.FileFault.{FileFault}
use Rattle.files.specs.JobFiles.{TheoryParts, bare, job_file, one_vat, shared}
use Rattle.files.specs.Places.{then_file}
use Rattle.files.specs.Shown.{Shown}
use Rattle.files.specs.TraceFiles.{trace_verdict}

-- what a theory means by its parts
abbrev pub meaning_of : TheoryParts → Meaning (List ℕ)
meaning_of bare = on_bytes no_bytes bareMeaning
meaning_of (shared calls) = on_bytes two_bytes (shared_results calls)
meaning_of (one_vat batches) = on_bytes two_bytes (oneVatMeaning batches)

-- how many bytes its clues have
abbrev pub width_of : TheoryParts → ℕ
width_of bare = 0
width_of (shared calls) = 2
width_of (one_vat batches) = 2

abbrev pub checked : List ℕ → List ℕ → Result Verdict FileFault
checked job trace = then_file (job_file job) (λ p. trace_verdict p.0 (meaning_of p.1) (width_of p.1) trace)

-- the whole law of derivations holds of the job and the theory that a file spells
abbrev pub LawOf : Result (Job × TheoryParts) FileFault → Type 0
LawOf (Ok p) = Law p.0 (meaning_of p.1)
LawOf (Err f) = Unit {0}

-- a verdict tells the truth of the job and the theory that a file spells
abbrev pub TrueOf : Result (Job × TheoryParts) FileFault → Verdict → Type 0
TrueOf (Ok p) v = Shown p.0 (meaning_of p.1) v
TrueOf (Err f) v = ⊥
