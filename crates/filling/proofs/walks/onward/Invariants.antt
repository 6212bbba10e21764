-- `filling::walks::onward` meets its contract: the loop keeps what the points to the first v locations have lowered. Assumes nothing.
use Prim.Native.Nat.{◌-◌}
use lib.ListN.{length}
use Rattle.slice.specs.Changes.{Lowers, Until}
use Rattle.filling.specs.Sets.{Onward}
use Rattle.filling.proofs.walks.onward.Given as goal

abbrev pub invariant-loop-v : goal.invariant-loop-v
invariant-loop-v l = Lowers (length l.initial.out - 1) (Until (Onward l.columns l.ahead l.count) l.v) l.initial.out l.out
