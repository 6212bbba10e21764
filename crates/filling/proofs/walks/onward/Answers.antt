use Rattle.slice.proofs.Lowering.{lowers_on, lowers_off, until_more}
use Rattle.filling.specs.Sets.{Onward}
use Rattle.filling.proofs.walks.onward.Goals as goal
use Rattle.filling.proofs.walks.onward.Goals.{then-columns-v, else-columns-v}

pub loop-v-preserved : goal.loop-v-preserved
loop-v-preserved c =
    let l = c.loop-v in
    let a = c.args in
    elim c.if-columns-v.branch [
      | then-columns-v w ↦
          let h = rw (l.auto.out, w.from.ensures, w.from-then-columns-v.ensures) at w.lower.ensures in
          rw w.out-is (until_more _ (Onward a.columns.now a.ahead a.count) l.v _ _ _ l.invariant (lowers_on _ _ _ _ _ w.if-columns-v.true h))
      | else-columns-v w ↦ rw w.out-is (until_more _ (Onward a.columns.now a.ahead a.count) l.v _ _ _ l.invariant (lowers_off _ _ _ _ w.if-columns-v.false))
    ]
