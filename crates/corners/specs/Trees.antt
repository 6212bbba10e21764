-- The tree that is lent, the test that its flags stand for, and what its columns hold.
use Rattle.std.specs.Prelude.{Bool, ℕ}
use Rattle.laws.specs.Test.{bit}
use Rattle.theory.specs.Grants.{is}
use Rattle.theory.specs.Tree.{Tree, before, start, end, own}
use Rattle.theory.specs.Points.{rest}
use Rattle.slice.specs.Changes.{Entries}
use Rattle.corners.specs.declared.lent.LentTree.{LentTree}
use Rattle.corners.specs.declared.columns.Columns.{Columns}
use Rattle.corners.specs.Lent.{Marks, lent_tree, opens_over, closes_over}

abbrev pub tree_from : LentTree → Tree
tree_from t = lent_tree t.parents t.ticks t.flags t.locations t.period

abbrev pub asked_by : LentTree → ℕ → Bool
asked_by t = is (bit t.pass)

-- Every column is the tree's.
pub record Made (t : LentTree) (k : Columns) : Type 0 where
  pub opens : Marks t.locations (opens_over t.parents t.flags (bit t.pass)) k.opens
  pub closes : Marks t.locations (closes_over t.parents t.flags k.ends (bit t.pass) t.locations t.period) k.closes
  pub begins : Entries t.locations (start (tree_from t)) k.begins
  pub ends : Entries t.locations (end (tree_from t)) k.ends
  pub counts : Entries t.locations (before (tree_from t) (own (tree_from t) (asked_by t))) k.counts
  pub rests : Entries t.locations (rest (tree_from t) (asked_by t)) k.rests
