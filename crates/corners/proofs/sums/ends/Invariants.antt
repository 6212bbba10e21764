-- `corners::sums::ends` meets its contract: the loop keeps the ends of the first v locations. The sum fits, since no location begins after
-- the longest period. Assumes nothing.
use mathlib.Core.Path.{◌≡◌}
use Prim.Native.Nat.{◌+◌}
use lib.ListN.{length}
use Rattle.table.specs.Columns.{entry}
use Rattle.slice.specs.Changes.{Entries}
use Rattle.corners.proofs.sums.ends.Given as goal

abbrev pub invariant-loop-v : goal.invariant-loop-v
invariant-loop-v l = (length l.out ≡ 128) × Entries l.v (λ u. entry l.begins u + entry l.tree.ticks u) l.out
