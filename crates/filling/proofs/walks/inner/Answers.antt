use Rattle.slice.proofs.Lowering.{lowers_on, lowers_off, until_more}
use Rattle.filling.specs.Sets.{Inner}
use Rattle.filling.proofs.walks.inner.Goals as goal
use Rattle.filling.proofs.walks.inner.Goals.{then-columns-v, else-columns-v}

pub loop-v-preserved : goal.loop-v-preserved
loop-v-preserved c =
    let l = c.loop-v in
    let a = c.args in
    elim c.if-columns-v.branch [
      | then-columns-v w ↦
          let h = rw l.auto.out at w.upward.ensures in
          rw w.out-is (until_more _ (Inner a.tree.now a.columns.now) l.v _ _ _ l.invariant (lowers_on _ _ _ _ _ w.if-columns-v.true h))
      | else-columns-v w ↦ rw w.out-is (until_more _ (Inner a.tree.now a.columns.now) l.v _ _ _ l.invariant (lowers_off _ _ _ _ w.if-columns-v.false))
    ]
