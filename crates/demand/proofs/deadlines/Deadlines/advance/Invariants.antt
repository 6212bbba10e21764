-- `demand::deadlines::Deadlines::advance` meets its contract: the loop keeps that the work of the first i series is in the block, and the
-- least of their next deadlines. Assumes nothing.
use mathlib.Core.Path.{◌≡◌}
use lib.ListN.{length}
use Rattle.demand.proofs.Blocks.{Advancing}
use Rattle.demand.proofs.deadlines.Deadlines.advance.Given as goal

abbrev pub invariant-loop-i : goal.invariant-loop-i
invariant-loop-i l = record {
  same_tasks : l.self.count ≡ l.initial.self.count;
  long : length l.self.series ≡ 32;
  advancing : Advancing l.self.count l.start l.initial.self.series l.initial.block l.self.series l.block l.next l.i;
}
