use mathlib.Core.Path.{sym, ap, ◌∙◌}
use native.Mathlib.Omega.{arith}
use Rattle.table.specs.Columns.{end_over}
use Rattle.table.proofs.Ends.{end_root, end_child}
use Rattle.table.proofs.paths.+path_ticks.Goals as goal

pub returns-then-v-eq0-clause-value : goal.returns-then-v-eq0-clause-value
returns-then-v-eq0-clause-value t c =
    c.from-own.ensures ∙ sym (end_root c.args.parents.now c.args.ticks.now c.args.v c.if-v-eq0.true)

pub returns-clause-value : goal.returns-clause-value
returns-clause-value t c =
    let a = c.args in
    omega (arith, end_child a.parents.now a.ticks.now a.v (omega arith) c.requires.1, ap (end_over a.parents.now a.ticks.now) c.from-parent.ensures)
