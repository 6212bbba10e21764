use Rattle.std.proofs.Common.{rules, arith}
use Rattle.table.proofs.Copied.{column_is}
use Rattle.table.proofs.columns.column.Goals as goal

pub returns : goal.returns
returns g c f says =
    let i = c.loop-v.invariant in
    column_is f c.args.table.now.location c.loop-v.column 128 c.args.first i.0 (search rules) (λ v l. says _ _ (i.1 v (omega (arith, l, c.loop-v-test.false))))
