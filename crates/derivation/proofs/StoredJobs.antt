-- A stored job and the job that it stands for have the same numbers of variables and rows.
use Rattle.std.proofs.Common.{◌≡◌, ◌≤◌, length, arith}
use Rattle.std.proofs.lemmas.List.{length-map, length-take-le}
use Rattle.terms.specs.Stored.{row_of}
use Rattle.law.specs.Jobs.{size}
use Rattle.derivation.specs.declared.job.Job.{Job as StoredJob}
use Rattle.derivation.specs.JobView.{job_of}

pub size_is : (o : StoredJob) → size (job_of o) ≡ o.size
size_is o = length-take-le o.size o.costs.items (omega (arith, o.narrow, o.costs.long))

pub size_small : (o : StoredJob) → size (job_of o) ≤ 16
size_small o = omega (arith, size_is o, o.narrow)

pub rows_are : (o : StoredJob) → length (job_of o).rows ≡ length o.rows.items
rows_are o = length-map o.rows.items (row_of o.size)
