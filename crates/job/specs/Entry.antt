-- What an entry of a state says of a job.
use Rattle.std.specs.Prelude.{Bool, true, Option, None, Some, ltb}
use Rattle.theory.specs.Job.{Job}
use Rattle.job.specs.declared.Job.{Job as Entry}

-- An entry of a state as the theory's job, and back.
abbrev pub job_of : Entry → Job
job_of j = record { since = j.since; remaining = j.remaining; left = j.left }

abbrev pub entry_of : Job → Entry
entry_of j = record { since = j.since; remaining = j.remaining; left = j.left }

-- An entry of zeros.
abbrev pub no_job : Entry
no_job = record { since = 0; remaining = 0; left = 0 }

-- An entry has less left than the best so far; at first there is none.
abbrev pub beats : Entry → Option Entry → Bool
beats j None = true
beats j (Some best) = ltb j.left best.left
