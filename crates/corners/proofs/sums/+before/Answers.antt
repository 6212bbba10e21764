use mathlib.Core.List.{List}
use mathlib.Core.Path.{sym, ap}
use native.Mathlib.Omega.{arith}
use Prim.Native.Nat.{ℕ}
use Rattle.theory.specs.Tree.{Tree}
use Rattle.theory.proofs.Paths.{before_root, before_child}
use Rattle.table.specs.Columns.{entry, zeros, tree_over}
use Rattle.corners.specs.Lent.{before_over}
use Rattle.corners.proofs.sums.+before.Goals as goal

abbrev column_tree : List ℕ → ℕ → Tree
column_tree parents n = tree_over n (entry parents) zeros zeros zeros

pub returns-then-v-eq0-clause-value : goal.returns-then-v-eq0-clause-value
returns-then-v-eq0-clause-value t c =
    let a = c.args in
    sym (before_root (column_tree a.tree.now.parents 0) (λ u x y. absurd (omega arith)) (entry a.column.now) a.v c.if-v-eq0.true)

pub returns-clause-value : goal.returns-clause-value
returns-clause-value t c =
    let a = c.args in
    let tree = a.tree.now in
    let e = before_child (column_tree tree.parents tree.locations) tree.lent.formed.falls (entry a.column.now) a.v (omega arith) c.requires.in_bounds in
    let p = c.parent-parent.ensures.value in
    omega (arith, e, c.before-2.ensures.value, c.from.ensures, ap (before_over tree.parents a.column.now) p, ap (entry a.column.now) p)
