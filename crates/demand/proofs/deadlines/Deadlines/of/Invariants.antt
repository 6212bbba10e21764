-- `demand::deadlines::Deadlines::of` meets its contract: the loop keeps that the first series are the queue's among the tasks passed.
-- Assumes nothing.
use mathlib.Core.Path.{◌≡◌}
use lib.ListN.{length}
use Rattle.demand.proofs.OwnTasks.{Own}
use Rattle.demand.proofs.deadlines.Deadlines.of.Given as goal

abbrev pub invariant-loop-task : goal.invariant-loop-task
invariant-loop-task l = record { long : length l.series ≡ 32; own : Own l.table.table.now l.queue l.series l.count l.task-index }
