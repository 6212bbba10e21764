-- `corners::sums::sums` meets its contract: the loop keeps the sums of the first v locations. Assumes nothing.
use mathlib.Core.Path.{◌≡◌}
use lib.ListN.{length}
use Rattle.corners.specs.Lent.{Kept}
use Rattle.corners.proofs.sums.sums.Given as goal

abbrev pub invariant-loop-v : goal.invariant-loop-v
invariant-loop-v l = (length l.out ≡ 128) × Kept l.tree.parents l.column l.out l.v
