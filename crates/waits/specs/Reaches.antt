-- The first window of a filling that reaches a number of ticks.
use Rattle.std.specs.Prelude.{List, ℕ, ◌≤◌, ◌<◌}
use Rattle.table.specs.Columns.{entry}

-- r is the first of the windows below e whose entry reaches c, or e.
pub record Reaches (filled : List ℕ) (e c r : ℕ) : Type 0 where
  pub within : r ≤ e
  pub before : (w : ℕ) → w < r → entry filled w < c
  pub reached : r < e → c ≤ entry filled r
