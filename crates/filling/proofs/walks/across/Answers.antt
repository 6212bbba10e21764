use mathlib.Core.Path.{◌∙◌}
use Rattle.slice.proofs.Lowering.{lowers_either, lowers_on, lowers_off, until_more}
use Rattle.filling.specs.Sets.{Across}
use Rattle.filling.proofs.walks.across.Goals as goal
use Rattle.filling.proofs.walks.across.Goals.{then-columns-a, else-columns-a}

pub loop-a-preserved : goal.loop-a-preserved
loop-a-preserved c =
    let l = c.loop-a in
    let a = c.args in
    elim c.if-columns-a.branch [
      | then-columns-a w ↦
          let here = rw (l.auto.out, w.from.ensures, w.saturating_sub-ahead.ensures) at w.lower.ensures in
          let there = rw (here.long ∙ l.auto.out, w.saturating_sub-ahead.ensures) at w.onward.ensures in
          rw w.out-is (until_more _ (Across a.tree.now a.columns.now) l.a _ _ _ l.invariant (lowers_on _ _ _ _ _ w.if-columns-a.true (lowers_either _ _ _ _ _ _ here there)))
      | else-columns-a w ↦ rw w.out-is (until_more _ (Across a.tree.now a.columns.now) l.a _ _ _ l.invariant (lowers_off _ _ _ _ w.if-columns-a.false))
    ]
