-- `filling::walks::inner` meets its contract: the loop keeps what the points of the first v locations have lowered. Assumes nothing.
use Prim.Native.Nat.{◌-◌}
use lib.ListN.{length}
use Rattle.slice.specs.Changes.{Lowers, Until}
use Rattle.filling.specs.Sets.{Inner}
use Rattle.filling.proofs.walks.inner.Given as goal

abbrev pub invariant-loop-v : goal.invariant-loop-v
invariant-loop-v l = Lowers (length l.initial.out - 1) (Until (Inner l.tree l.columns) l.v) l.initial.out l.out
