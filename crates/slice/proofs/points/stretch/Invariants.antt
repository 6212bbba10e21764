-- `slice::points::stretch` meets its contract: the loop keeps what the entries from i on have lowered, and that those before i are as they
-- were. Assumes nothing.
use Prim.Native.Nat.{◌-◌}
use lib.ListN.{length}
use Rattle.slice.proofs.Lowering.{Stretching}
use Rattle.slice.proofs.points.stretch.Given as goal

abbrev pub invariant-loop-i : goal.invariant-loop-i
invariant-loop-i l = Stretching (length l.initial.out - 1) l.period l.cycle l.initial.out l.i l.out
