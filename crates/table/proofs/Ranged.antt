-- Owning a table tells that its numbers are in their types' ranges: a goal has it as `c.well_formed`, for a call's result as `c.type_inv`. Assumes nothing.
use Prim.Native.Nat.{ℕ, zero, suc}
use mathlib.Core.List.{List, [], ◌∷◌}
use lib.ListN.{get_or}
use lib.Dec.{lit<}
use mir.Val.{Val}
use denote.Array.{each}
use denote.Shadow.{shadow}
use denote.Laws.{Is}
use denote.Struct.Declared.{row}
use Rattle.table.specs.declared.Location.{Location}
use Rattle.table.specs.declared.Task.{Task}
use Rattle.table.specs.declared.Table.{Table}
use Rattle.table.specs.Table.{no_location, no_task}
use Rattle.table.specs.Ranged.{RangedLocation, RangedTask, Ranged}
use Rattle.table.specs.contracts.Location as location
use Rattle.table.specs.contracts.Task as task
use Rattle.table.specs.contracts.Table as table

locations : (xs : List Location) (us : List Val) → shadow (each location.the_row.Denot location.the_row.own_val xs us) → (v : ℕ) → RangedLocation (get_or xs v no_location)
locations [] us p v = record { parent = lit< tt; queue = lit< tt; ticks = lit< tt; variable = lit< tt; low = lit< tt; high = lit< tt }
locations (x ∷ xs) [] p v = absurd p
locations (x ∷ xs) (u ∷ us) p zero =
    let f = p.0.1.1 in
    record { parent = f.0.1; queue = f.1.0.1; ticks = f.1.1.0.1; variable = f.1.1.1.0.1; low = f.1.1.1.1.0.1; high = f.1.1.1.1.1.0.1 }
locations (x ∷ xs) (u ∷ us) p (suc v) = locations xs us p.1 v

tasks : (xs : List Task) (us : List Val) → shadow (each task.the_row.Denot task.the_row.own_val xs us) → (i : ℕ) → RangedTask (get_or xs i no_task)
tasks [] us p i = record { queue = lit< tt; work = lit< tt; deadline = lit< tt; gap = lit< tt }
tasks (x ∷ xs) [] p i = absurd p
tasks (x ∷ xs) (u ∷ us) p zero =
    let f = p.0.1.1 in
    record { queue = f.0.1; work = f.1.0.1; deadline = f.1.1.0.1; gap = f.1.1.1.0.1 }
tasks (x ∷ xs) (u ∷ us) p (suc i) = tasks xs us p.1 i

pub ranged : (t : Table) (vs : List Val) → Is (row table.the_type) t vs → Ranged t
ranged t vs p =
    let f = p.1.1 in
    let numbers = f.1.1.1.1.1 in
    record {
      version = f.0.1;
      queues = f.1.0.1;
      period = f.1.1.0.1;
      locations = f.1.1.1.0.1;
      tasks = f.1.1.1.1.0.1;
      location_length = numbers.0.1.0.1;
      task_length = numbers.1.0.1.0.1;
      location = locations t.location numbers.0.0 numbers.0.1.1;
      task = tasks t.task numbers.1.0.0 numbers.1.0.1.1;
    }
