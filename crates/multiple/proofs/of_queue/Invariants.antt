-- `multiple::of_queue` meets its contract: the loop keeps the multiple of the period and of the gaps among the first tasks, and
-- past the limit more tasks only make it larger. Assumes nothing.
use Prim.Native.Nat.{◌≤◌}
use mathlib.Core.Path.{◌≡◌}
use Rattle.theory.specs.Search.{lcm_to}
use Rattle.table.specs.Table.{tasks_of}
use Rattle.multiple.proofs.of_queue.Given as goal

abbrev pub invariant-loop-task : goal.invariant-loop-task
invariant-loop-task l = record {
  multiple : l.multiple ≡ lcm_to (tasks_of l.table.table.now) l.queue l.table.table.now.period l.task-index;
  in_bounds : (1 ≤ l.multiple) × (l.multiple ≤ 1000000);
}
