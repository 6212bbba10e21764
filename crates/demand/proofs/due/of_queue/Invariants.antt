-- `demand::due::of_queue` meets its contract: the loop keeps the demand of the first tasks, each at most the window. Assumes nothing.
use Prim.Native.Nat.{ℕ, ◌*◌, ◌≤◌}
use mathlib.Core.Path.{◌≡◌}
use lib.Dec.{eqb}
use Rattle.laws.specs.Test.{pick}
use Rattle.laws.specs.Sum as laws
use Rattle.theory.specs.Task.{demand_of}
use Rattle.table.specs.declared.Table.{Table}
use Rattle.table.specs.Table.{task_at, as_task}
use Rattle.demand.proofs.due.of_queue.Given as goal

-- task i's part in the sum
abbrev pub part : Table → ℕ → ℕ → ℕ → ℕ
part t q w i = pick (eqb (task_at t i).queue q) (demand_of (as_task (task_at t i)) w) 0

abbrev pub invariant-loop-task : goal.invariant-loop-task
invariant-loop-task l = (l.sum ≡ laws.sum (part l.table.table.now l.queue l.window) 0 l.task-index) × (l.sum ≤ l.task-index * l.window)
