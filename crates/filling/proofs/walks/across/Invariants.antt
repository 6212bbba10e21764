-- `filling::walks::across` meets its contract: the loop keeps what the points from the first a locations have lowered. Assumes nothing.
use Prim.Native.Nat.{◌-◌}
use lib.ListN.{length}
use Rattle.slice.specs.Changes.{Lowers, Until}
use Rattle.filling.specs.Sets.{Across}
use Rattle.filling.proofs.walks.across.Given as goal

abbrev pub invariant-loop-a : goal.invariant-loop-a
invariant-loop-a l = Lowers (length l.initial.out - 1) (Until (Across l.tree l.columns) l.a) l.initial.out l.out
