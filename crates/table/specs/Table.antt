-- What a table means: its entries, when two tables are the same, its tree and its tasks.
use Rattle.std.specs.Prelude.{◌≡◌, ℕ, ◌<◌, get_or, replicate}
use Rattle.theory.specs.Tree.{Tree}
use Rattle.theory.specs.Task.{Tasks}
use Rattle.theory.specs.Task as theory
use Rattle.table.specs.declared.Location.{Location}
use Rattle.table.specs.declared.Task.{Task}
use Rattle.table.specs.declared.Table.{Table}

abbrev pub no_location : Location
no_location = record { parent = 0; queue = 0; ticks = 0; variable = 0; low = 0; high = 0 }

abbrev pub no_task : Task
no_task = record { queue = 0; work = 0; deadline = 0; gap = 0 }

-- All zeros.
abbrev pub empty_table : Table
empty_table = record { version = 0; queues = 0; period = 0; locations = 0; tasks = 0; location = replicate 128 no_location; task = replicate 32 no_task }

-- Location v, task i.
abbrev pub location_at : Table → ℕ → Location
location_at t v = get_or t.location v no_location

abbrev pub task_at : Table → ℕ → Task
task_at t i = get_or t.task i no_task

-- Two tables are the same where all that counts is: entries past the counts are not compared.
pub record Same (t u : Table) : Type 0 where
  pub version : t.version ≡ u.version
  pub queues : t.queues ≡ u.queues
  pub period : t.period ≡ u.period
  pub locations : t.locations ≡ u.locations
  pub tasks : t.tasks ≡ u.tasks
  pub location : (v : ℕ) → v < t.locations → location_at t v ≡ location_at u v
  pub task : (i : ℕ) → i < t.tasks → task_at t i ≡ task_at u i

-- The tree that a table means.
abbrev pub tree_of : Table → Tree
tree_of t = record {
  size = t.locations;
  period = t.period;
  parent = λ v. (location_at t v).parent;
  queue = λ v. (location_at t v).queue;
  ticks = λ v. (location_at t v).ticks;
  variable = λ v. (location_at t v).variable;
  low = λ v. (location_at t v).low;
  high = λ v. (location_at t v).high;
}

-- The task that an entry means, and the tasks that a table means.
abbrev pub as_task : Task → theory.Task
as_task k = record { queue = k.queue; work = k.work; deadline = k.deadline; gap = k.gap }

abbrev pub tasks_of : Table → Tasks
tasks_of t = record { number = t.tasks; task = λ i. as_task (task_at t i) }
