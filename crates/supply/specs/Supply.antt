-- The least of every window from a filling.
use Rattle.std.specs.Prelude.{List, ℕ, ◌+◌, ◌-◌, ◌*◌, ◌/◌, ◌%◌, ◌<◌, ltb}
use Rattle.laws.specs.Test.{pick}
use Rattle.theory.specs.Grants.{is}
use Rattle.theory.specs.Bounds.{Least}
use Rattle.theory.specs.Tree.{grants, CycleLeast}
use Rattle.table.specs.declared.Table.{Table}
use Rattle.table.specs.Table.{tree_of}
use Rattle.table.specs.Columns.{entry}

-- All that is known of a queue's supply: the least of each window below 2P, and the cycle least.
pub record Supplied (t : Table) (q : ℕ) (filled : List ℕ) (cycle : ℕ) : Type 0 where
  pub least : (w : ℕ) → w < 2 * t.period → Least (grants (tree_of t)) (is q) w (entry filled w)
  pub cycle_least_law : CycleLeast (tree_of t) (is q) cycle

-- The least of window w by the law of the period.
abbrev pub supply_at : List ℕ → ℕ → ℕ → ℕ → ℕ
supply_at filled P cycle w = pick (ltb w (2 * P)) (entry filled w) (entry filled (P + (w - P) % P) + (w - P) / P * cycle)
