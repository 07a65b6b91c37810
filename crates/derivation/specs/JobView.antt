-- The job that a stored job stands for.
use Rattle.std.specs.Prelude.{List, ◌++◌, map, take}
use Rattle.terms.specs.Rows.{Row}
use Rattle.terms.specs.Stored.{row_of}
use Rattle.law.specs.Jobs.{Job}
use Rattle.derivation.specs.declared.job.Job.{Job as StoredJob}

abbrev pub job_of : StoredJob → Job
job_of j = record { costs = take j.size j.costs.items; rows = map (row_of j.size) j.rows.items }

-- rows more, at the end
abbrev pub with_rows : Job → List Row → Job
with_rows j rows = record { costs = j.costs; rows = j.rows ++ rows }
