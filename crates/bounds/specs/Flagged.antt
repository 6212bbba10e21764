-- A table's tree with flags in place of queues, and what they ask.
use Rattle.std.specs.Prelude.{Bool, true, false, ℕ}
use Rattle.laws.specs.Test.{bit}
use Rattle.theory.specs.Grants.{is, others}
use Rattle.theory.specs.Tree.{Tree}
use Rattle.table.specs.declared.Table.{Table}
use Rattle.table.specs.Table.{location_at}
use Rattle.table.specs.Columns.{zeros}

-- Queue 1 where the location's queue is q, and 0 elsewhere.
abbrev pub flagged : Table → ℕ → Tree
flagged t q = record {
  size = t.locations;
  period = t.period;
  parent = λ v. (location_at t v).parent;
  queue = λ v. bit (is q (location_at t v).queue);
  ticks = λ v. (location_at t v).ticks;
  variable = zeros;
  low = zeros;
  high = zeros;
}

-- The ticks that are asked for: queue q's own, or those of all others.
abbrev pub asks : Bool → ℕ → ℕ → Bool
asks true q = is q
asks false q = others (is q)
