use Prim.Native.Nat.{◌-◌}
use native.Mathlib.Omega.{arith}
use lib.ListN.{length}
use Rattle.slice.proofs.Lowering.{stretching_more, stretching_all}
use Rattle.slice.proofs.points.stretch.Goals as goal

pub loop-i-preserved : goal.loop-i-preserved
loop-i-preserved c =
    let l = c.loop-i in
    stretching_more (length c.args.out.now - 1) _ _ c.args.out.now (l.i - 1) l.i l.out _ (omega arith) (omega arith) l.invariant
    (rw (l.auto.out, c.from.ensures, c.from-in-loop-i.ensures) at c.lower.ensures)

pub returns : goal.returns
returns c = stretching_all _ _ _ _ _ _ _ (omega arith) (omega arith) c.loop-i.invariant
