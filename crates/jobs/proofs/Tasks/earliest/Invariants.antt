-- `jobs::Tasks::earliest` meets its contract: the loop keeps the best of the first i tasks. Assumes nothing.
use Rattle.std.proofs.Common.{◌≡◌}
use Rattle.laws.specs.Found.{best}
use Rattle.theory.specs.Steps.{waits}
use Rattle.table.specs.Table.{tasks_of}
use Rattle.jobs.specs.Entries.{job_in, choice_of}
use Rattle.jobs.proofs.Tasks.earliest.Given as goal

abbrev pub invariant-loop-i : goal.invariant-loop-i
invariant-loop-i l = l.best ≡ choice_of (best (waits (tasks_of l.self.table.now) l.queue (job_in l.entries)) (λ i. (job_in l.entries i).left) l.i)
