-- From columns to the tree that is lent: what each location's first tick, last tick and count are. Assumes nothing.
use Prim.Native.Nat.{ℕ, suc, ◌+◌}
use mathlib.Core.Path.{◌≡◌}
use mathlib.Core.Bool.{Bool}
use mathlib.Core.List.{List}
use native.Mathlib.Nat.{le_refl}
use native.Mathlib.Omega.{arith}
use Rattle.laws.specs.Test.{bit}
use Rattle.theory.specs.Grants.{others}
use Rattle.theory.specs.Tree.{Tree, before, start, end, own, grant}
use Rattle.theory.proofs.Grants.{count_others}
use Rattle.theory.proofs.Paths.{before_add, starts_in_cycle}
use Rattle.table.specs.Columns.{entry}
use Rattle.slice.specs.Changes.{Entries}
use Rattle.corners.specs.declared.lent.LentTree.{LentTree}
use Rattle.corners.specs.Lent.{Below, own_over, before_over}
use Rattle.corners.specs.Trees.{tree_from, asked_by}
use Rattle.corners.proofs.Resting.{own_over_law}

module _ (t : LentTree) where
  abbrev tree : Tree
  tree = tree_from t

  abbrev p : ℕ → Bool
  p = asked_by t

  pub begins_below : (begins : List ℕ) → Entries t.locations (start tree) begins → Below t.locations t.period begins
  begins_below begins b v l = omega (arith, b v l, starts_in_cycle tree t.lent.formed v l)

  pub ends_are : (begins ends : List ℕ) → Entries t.locations (start tree) begins → Entries t.locations (λ v. entry begins v + entry t.ticks v) ends
      → Entries t.locations (end tree) ends
  ends_are begins ends b e v l = omega (arith, b v l, e v l)

  -- the counts before each location, from the column of own ticks
  pub counts_are : (owns counts : List ℕ) → Entries 128 (own_over t.ticks t.flags (bit t.pass)) owns → Entries t.locations (before_over t.parents owns) counts
      → Entries t.locations (before tree (own tree p)) counts
  counts_are owns counts e f v l =
      let falls = t.lent.formed.falls in
      let each : (u : ℕ) → own tree p u + own tree (others p) u ≡ entry t.ticks u = λ u. count_others p (λ k. grant tree (record { location = u; done = k })) 0 (entry t.ticks u) in
      omega (
        arith,
        f v l,
        before_add tree falls (entry owns) (own tree (others p)) (entry t.ticks)
            (λ u s. omega (arith, each u, e u (omega (arith, s, t.lent.few)), own_over_law t u)) (suc v) v (le_refl _) l,
        before_add tree falls (own tree p) (own tree (others p)) (entry t.ticks) (λ u s. each u) (suc v) v (le_refl _) l,
      )
