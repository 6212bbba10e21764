-- `jobs::Tasks::late_set` meets its contract: the set holds the late ones of the first i tasks. Assumes nothing.
use Rattle.std.proofs.Common.{◌≡◌}
use Rattle.laws.specs.Bits.{set_of}
use Rattle.theory.specs.Job.{is_late}
use Rattle.jobs.specs.Entries.{job_in}
use Rattle.jobs.proofs.Tasks.late_set.Given as goal

abbrev pub invariant-loop-i : goal.invariant-loop-i
invariant-loop-i l = l.set ≡ set_of (λ i. is_late (job_in l.entries i)) l.i
