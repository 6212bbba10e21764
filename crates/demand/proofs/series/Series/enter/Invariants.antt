-- `demand::series::Series::enter` meets its contract: the loop keeps that no window's demand changes while the task's work goes into the
-- block. Assumes nothing.
use Prim.Native.Nat.{ℕ, ◌+◌, ◌-◌, ◌≤◌}
use mathlib.Core.Path.{◌≡◌}
use lib.ListN.{length}
use Rattle.theory.specs.Task.{demand_of}
use Rattle.demand.specs.Ahead.{waiting_for, entered}
use Rattle.demand.proofs.series.Series.enter.Given as goal

abbrev pub invariant-loop-self : goal.invariant-loop-self
invariant-loop-self l = record {
  since : l.start ≤ l.self.next;
  full : length l.block ≡ 64;
  same_gap : l.self.gap ≡ l.initial.self.gap;
  same_work : l.self.work ≡ l.initial.self.work;
  keeps : (w : ℕ) → entered l.block l.start w + demand_of (waiting_for l.self) w ≡ entered l.initial.block l.start w + demand_of (waiting_for l.initial.self) w;
}

abbrev pub decreases-loop-self : goal.decreases-loop-self
decreases-loop-self l = l.end - l.self.next
