use Prim.Native.Nat.{◌-◌}
use native.Mathlib.Omega.{arith}
use lib.ListN.{length}
use Rattle.slice.proofs.Settling.{down_starts, down_turn}
use Rattle.slice.proofs.passes.down.Goals as goal

pub loop-i-init : goal.loop-i-init
loop-i-init c = down_starts _ (length c.args.out.now - 1) _ (omega arith)

pub loop-i-preserved : goal.loop-i-preserved
loop-i-preserved c =
    let l = c.loop-i in
    down_turn c.args.out.now (length c.args.out.now - 1) (l.i - 1 - 1) (l.i - 1) _ l.out (omega arith) (omega arith) (omega arith) c.min.ensures l.invariant
