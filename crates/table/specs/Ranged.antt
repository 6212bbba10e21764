-- What the types say of each table: every number is in its type's range, and the arrays have their lengths.
use Rattle.std.specs.Prelude.{◌≡◌, ℕ, ◌^◌, ◌<◌, ◌≤◌, length}
use Rattle.theory.specs.Guards.{top}
use Rattle.table.specs.declared.Location.{Location}
use Rattle.table.specs.declared.Task.{Task}
use Rattle.table.specs.declared.Table.{Table}
use Rattle.table.specs.Table.{location_at, task_at}

pub record RangedLocation (l : Location) : Type 0 where
  pub parent : l.parent < 256
  pub queue : l.queue < 256
  pub ticks : l.ticks < 65536
  pub variable : l.variable < 256
  pub low : l.low < 65536
  pub high : l.high < 65536

pub record RangedTask (k : Task) : Type 0 where
  pub queue : k.queue < 256
  pub work : k.work < 65536
  pub deadline : k.deadline < 65536
  pub gap : k.gap < 65536

pub record Ranged (t : Table) : Type 0 where
  pub version : t.version < 256
  pub queues : t.queues < 256
  pub period : t.period < 65536
  pub locations : t.locations < 2 ^ 64
  pub tasks : t.tasks < 2 ^ 64
  pub location_length : length t.location ≡ 128
  pub task_length : length t.task ≡ 32
  pub location : (v : ℕ) → RangedLocation (location_at t v)
  pub task : (i : ℕ) → RangedTask (task_at t i)

-- Each location's guard ends at a value.
abbrev pub HighInWidth : Table → Type 0
HighInWidth t = (v : ℕ) → v < t.locations → (location_at t v).high ≤ top
