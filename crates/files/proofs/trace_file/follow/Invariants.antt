use Rattle.std.proofs.Common.{◌≡◌, ℕ, ◌<◌, false, length}
use Rattle.theories.specs.Meaning.{on_bytes}
use Rattle.derivation.specs.ProofView.{job_held, moment_held}
use Rattle.files.specs.declared.fault.File.TheVariants.{Trace as inTrace}
use Rattle.files.specs.Records.{Way, all_records, records_read}
use Rattle.files.specs.TraceFiles.{Following, following, trace_way}
use Rattle.files.proofs.trace_file.follow.Given as goal

-- what is left gives the answer, with fuel enough; job and theory are as they were
abbrev pub invariant-loop-ended : goal.invariant-loop-ended
invariant-loop-ended g l =
    let way : Way Following = trace_way (job_held l.initial.proof) (on_bytes g.T.Theory.reads (g.T.Theory.means l.initial.proof.theory)) g.T.Theory.width in
    ((fuel : ℕ) × (length l.records.bytes.now < fuel) × (records_read way (length l.trace) fuel l.records.nth (following l.ended (moment_held l.proof)) l.records.bytes.now ≡ all_records way (following false (moment_held l.initial.proof)) l.trace))
    × (l.records.file ≡ inTrace) × (l.records.total ≡ length l.trace)
    × (job_held l.proof ≡ job_held l.initial.proof) × (l.proof.theory ≡ l.initial.proof.theory)

abbrev pub decreases-loop-ended : goal.decreases-loop-ended
decreases-loop-ended g l = length l.records.bytes.now
