-- Numbers in their widths: one byte or two. The rules bound all numbers of a well-formed table but the tasks' gaps. Assumes nothing.
use Prim.Native.Nat.{ℕ, zero, suc, ◌<◌}
use native.Mathlib.Omega.{arith}
use Rattle.table.specs.declared.Table.{Table}
use Rattle.table.specs.Table.{location_at, task_at}
use Rattle.table.specs.Ranged.{RangedLocation, RangedTask}
use Rattle.table.specs.Rules.{WellFormed}
use Rattle.table.specs.Ranged.{HighInWidth}

-- of the entries that count
pub record InWidth (t : Table) : Type 0 where
  pub version : t.version < 256
  pub queues : t.queues < 256
  pub period : t.period < 65536
  pub location : (v : ℕ) → v < t.locations → RangedLocation (location_at t v)
  pub task : (i : ℕ) → i < t.tasks → RangedTask (task_at t i)

pub high_in_width : (t : Table) → InWidth t → HighInWidth t
high_in_width t w v l = omega (arith, (w.location v l).high)

abbrev pub GapInWidth : Table → Type 0
GapInWidth t = (i : ℕ) → i < t.tasks → (task_at t i).gap < 65536

module _ (t : Table) (w : WellFormed t) where
  parent_in_width : (v : ℕ) → v < t.locations → (location_at t v).parent < 256
  parent_in_width zero l = omega (arith, w.root.0)
  parent_in_width (suc v) l = omega (arith, w.formed.falls (suc v) (omega arith) l, w.locations.1)

  guard_in_width : (v : ℕ) → v < t.locations → ((location_at t v).low < 65536) × ((location_at t v).high < 65536)
  guard_in_width zero l = (omega (arith, w.root.1), omega (arith, w.root.2))
  guard_in_width (suc v) l = let r = w.guarded.some_value (suc v) (omega arith) l in (omega (arith, r), omega (arith, r))

  pub well_formed_in_width : GapInWidth t → InWidth t
  well_formed_in_width gap = record {
    version = omega (arith, w.version);
    queues = omega (arith, w.queues.1);
    period = omega (arith, w.period.1);
    location = λ v l. record {
      parent = parent_in_width v l;
      queue = omega (arith, w.queue v l, w.queues.1);
      ticks = omega (arith, w.ticks v l);
      variable = omega (arith, w.variable v l);
      low = (guard_in_width v l).0;
      high = (guard_in_width v l).1;
    };
    task = λ i l.
        let k = w.task i l in
        record {
          queue = omega (arith, k.1, w.queues.1);
          work = omega (arith, k.2.fits, k.2.constrained, gap i l);
          deadline = omega (arith, k.2.constrained, gap i l);
          gap = gap i l;
        };
  }
