-- The tree that lent guards mean, and guards that are read from a table.
use Rattle.std.specs.Prelude.{◌≡◌}
use Rattle.theory.specs.Tree.{Tree}
use Rattle.table.specs.declared.Table.{Table}
use Rattle.table.specs.Columns.{parent_column, low_column, high_column}
use Rattle.guards.specs.declared.Guards.{Guards}
use Rattle.guards.specs.Children.{guards_over}

abbrev pub guards_of : Guards → Tree
guards_of g = guards_over g.parents g.lows g.highs g.n

pub record ReadFrom (t : Table) (g : Guards) : Type 0 where
  pub parents : g.parents ≡ parent_column t
  pub lows : g.lows ≡ low_column t
  pub highs : g.highs ≡ high_column t
  pub n : g.n ≡ t.locations
