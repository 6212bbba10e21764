-- The sum of the ticks on a path is the location's own and its parent's sum. Assumes nothing.
use mathlib.Core.Path.{◌≡◌}
use mathlib.Core.List.{List}
use Prim.Native.Nat.{ℕ, ◌+◌, ◌<◌}
use native.Mathlib.Omega.{arith}
use Rattle.laws.proofs.Climb.{Falls}
use Rattle.theory.specs.Tree.{Tree}
use Rattle.theory.proofs.Paths.{before_root, before_child}
use Rattle.table.specs.Columns.{entry, zeros, tree_over, end_over}

module _ (parents ticks : List ℕ) where
  abbrev tree : ℕ → Tree
  tree n = tree_over n (entry parents) (entry ticks) zeros zeros

  pub end_root : (v : ℕ) → v ≡ 0 → end_over parents ticks v ≡ entry ticks v
  end_root v e = omega (arith, before_root (tree 0) (λ u a b. absurd (omega arith)) (entry ticks) v e)

  pub end_child : (v : ℕ) → 0 < v → Falls (entry parents) (v + 1) → end_over parents ticks v ≡ end_over parents ticks (entry parents v) + entry ticks v
  end_child v z falls = omega (arith, before_child (tree (v + 1)) falls (entry ticks) v z (omega arith))
