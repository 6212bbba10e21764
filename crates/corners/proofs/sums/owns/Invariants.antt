-- `corners::sums::owns` meets its contract: the loop keeps the own ticks of the first v locations. Assumes nothing.
use mathlib.Core.Path.{◌≡◌}
use lib.ListN.{length}
use Rattle.laws.specs.Test.{bit}
use Rattle.slice.specs.Changes.{Entries}
use Rattle.corners.specs.Lent.{own_over}
use Rattle.corners.proofs.sums.owns.Given as goal

abbrev pub invariant-loop-v : goal.invariant-loop-v
invariant-loop-v l = (length l.out ≡ 128) × Entries l.v (own_over l.tree.ticks l.tree.flags (bit l.tree.pass)) l.out
