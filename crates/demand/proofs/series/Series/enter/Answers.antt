use mathlib.Core.Path.{◌∙◌}
use Prim.Native.Nat.{◌+◌, ◌<◌}
use native.Mathlib.Omega.{arith}
use lib.ListN.{length-set}
use Rattle.demand.proofs.Blocks.{enters_more, enters_small}
use Rattle.demand.proofs.series.Series.enter.Goals as goal

pub overflow_add-block : goal.overflow_add-block
overflow_add-block c =
    let now = c.loop-self in
    let a = c.args in
    let h = now.invariant in
    let within : now.self.next < a.start + 64 = c.loop-self-test.true in
    omega (
      arith,
      enters_small now.block a.start now.self.next now.self.gap now.self.work (omega arith) h.since h.full within
          (omega (arith, h.keeps now.self.next, c.requires.fits now.self.next within)),
    )

pub loop-self-preserved : goal.loop-self-preserved
loop-self-preserved c =
    let now = c.loop-self in
    let a = c.args in
    let h = now.invariant in record {
      since = omega arith;
      full = simp length-set h.full;
      same_gap = h.same_gap;
      same_work = h.same_work;
      keeps = λ w. enters_more now.block a.start now.self.next now.self.gap now.self.work (omega arith) h.since h.full c.loop-self-test.true w ∙ h.keeps w;
    }
