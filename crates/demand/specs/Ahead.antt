-- A queue's deadlines, and the work of a block of windows.
use Rattle.std.specs.Prelude.{◌≡◌, List, ℕ, suc, ◌+◌, ◌-◌, ◌≤◌, ◌<◌, get_or, Option, None, Some}
use Rattle.laws.specs.Sum.{sum}
use Rattle.theory.specs.Task.{Task, LawfulTask, demand_of, demand}
use Rattle.table.specs.declared.Table.{Table}
use Rattle.table.specs.declared.Task as table
use Rattle.table.specs.Table.{tasks_of}
use Rattle.table.specs.Columns.{entry}
use Rattle.demand.specs.declared.series.Series.{Series}

-- ---- deadlines

-- The largest number of 32 bits.
abbrev pub far : ℕ
far = 4294967295

-- A task whose deadlines are d and then one after each gap.
abbrev pub waiting : ℕ → ℕ → ℕ → Task
waiting d gap work = record { queue = 0; work = work; deadline = d; gap = gap }

-- The task that a series stands for.
abbrev pub waiting_for : Series → Task
waiting_for s = waiting s.next s.gap s.work

-- All deadlines of a task.
abbrev pub laid : table.Task → Series
laid k = record { next = k.deadline; gap = k.gap; work = k.work }

abbrev pub no_series : Series
no_series = record { next = 0; gap = 0; work = 0 }

abbrev pub series_at : List Series → ℕ → Series
series_at series i = get_or series i no_series

-- The demand of window w that the first n series bring.
abbrev pub ahead : List Series → ℕ → ℕ → ℕ
ahead series n w = sum (λ i. demand_of (waiting_for (series_at series i)) w) 0 n

-- n series, for queue q's own tasks: all deadlines of each. Their demand is the queue's.
pub record LaidOut (t : Table) (q : ℕ) (series : List Series) (n : ℕ) : Type 0 where
  pub lawful : (i : ℕ) → i < n → LawfulTask (waiting_for (series_at series i))
  pub demands : (w : ℕ) → ahead series n w ≡ demand (tasks_of t) q w

-- ---- blocks of 64 windows

-- Of a block that begins at window s, the work up to window w. Entry j has what is due at s + j.
abbrev pub entered : List ℕ → ℕ → ℕ → ℕ
entered block s w = sum (entry block) 0 (suc w - s)

-- A task's work has gone into the block: its next deadline is past the block, and no window's demand has changed.
pub record Enters (s : ℕ) (old new : Series) (before after : List ℕ) : Type 0 where
  pub same_gap : new.gap ≡ old.gap
  pub same_work : new.work ≡ old.work
  pub past : s + 64 ≤ new.next
  pub keeps : (w : ℕ) → entered after s w + demand_of (waiting_for new) w ≡ entered before s w + demand_of (waiting_for old) w

-- No deadline of the first n series is before d, which is past the block; where there is no d there are no series.
abbrev pub Next : ℕ → List Series → ℕ → Option ℕ → Type 0
Next s series n None = n ≡ 0
Next s series n (Some d) = (s + 64 ≤ d) × ((i : ℕ) → i < n → d ≤ (series_at series i).next)

-- Two series of one task.
abbrev pub SameTask : Series → Series → Type 0
SameTask r s = (r.gap ≡ s.gap) × (r.work ≡ s.work)

-- The same for the first n series, with the next deadline of all.
pub record Advances (n s : ℕ) (series series' : List Series) (before after : List ℕ) (d : Option ℕ) : Type 0 where
  pub same : (i : ℕ) → i < n → SameTask (series_at series' i) (series_at series i)
  pub next : Next s series' n d
  pub keeps : (w : ℕ) → entered after s w + ahead series' n w ≡ entered before s w + ahead series n w
