use native.Mathlib.Omega.{arith}
use Rattle.filling.proofs.Walking.{upward_root, upward_more}
use Rattle.filling.proofs.walks.+upward.Goals as goal

pub returns-then-a-ne0 : goal.returns-then-a-ne0
returns-then-a-ne0 t c =
    upward_more _ c.args.tree.now c.args.columns.now c.args.a c.args.v _ _ _ (omega arith) c.between.ensures (rw (c.between.ensures.long, c.parent.ensures.value) at c.upward.ensures)

pub returns-else-a-ne0 : goal.returns-else-a-ne0
returns-else-a-ne0 t c = upward_root _ c.args.tree.now c.args.columns.now c.args.a c.args.v _ _ c.if-a-ne0.false c.between.ensures
