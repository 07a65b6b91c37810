use Rattle.std.proofs.Common.{◌≡◌, ℕ, ◌<◌, length}
use Rattle.files.specs.declared.fault.File.TheVariants.{Job as inJob}
use Rattle.files.specs.JobFiles.{job_way, start}
use Rattle.files.specs.JobViews.{reading_of}
use Rattle.files.specs.Records.{all_records, records_read}
use Rattle.files.proofs.job_file.read_job.Given as goal

-- what is left gives the answer, with fuel enough
abbrev pub invariant-loop-records : goal.invariant-loop-records
invariant-loop-records l =
    ((fuel : ℕ) × (length l.records.bytes.now < fuel) × (records_read job_way (length l.file) fuel l.records.nth (reading_of l.reader) l.records.bytes.now ≡ all_records job_way start l.file))
    × (l.records.file ≡ inJob) × (l.records.total ≡ length l.file)

abbrev pub decreases-loop-records : goal.decreases-loop-records
decreases-loop-records l = length l.records.bytes.now
