use mathlib.Core.Path.{◌≡◌}
use Prim.Native.Nat.{◌+◌, ◌-◌, min}
use native.Mathlib.Omega.{arith}
use Rattle.table.specs.Columns.{entry}
use Rattle.slice.proofs.Settling.{up_starts, up_turn}
use Rattle.slice.proofs.passes.up.Goals as goal

pub loop-i-init : goal.loop-i-init
loop-i-init c = (omega arith, up_starts _)

pub loop-i-preserved : goal.loop-i-preserved
loop-i-preserved c =
    let l = c.loop-i in
    let v : c.min.result ≡ min (entry l.out l.i) (entry l.out (l.i - 1) + 1) = omega arith in
    (omega arith, up_turn _ (l.i - 1) l.i _ l.out (omega arith) (omega arith) v l.invariant.1)
