-- The tasks of a table that count, as a list.
use Rattle.std.specs.Prelude.{◌≡◌, List, ℕ, ◌≤◌, ◌<◌, length, get_or}
use Rattle.theory.specs.Task.{LawfulTask}
use Rattle.table.specs.declared.Table.{Table}
use Rattle.table.specs.declared.Task.{Task}
use Rattle.table.specs.Table.{no_task, task_at, tasks_of}

-- Few, each at its number, and lawful.
pub record Lists (t : Table) (tasks : List Task) : Type 0 where
  pub number : length tasks ≡ t.tasks
  pub few : t.tasks ≤ 32
  pub each : (i : ℕ) → i < length tasks → get_or tasks i no_task ≡ task_at t i
  pub lawful : (i : ℕ) → i < length tasks → LawfulTask ((tasks_of t).task i)
