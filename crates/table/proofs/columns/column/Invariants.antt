-- the entries below v are what their locations give
use Rattle.std.proofs.Common.{◌≡◌, ℕ, ◌<◌, length}
use Rattle.std.proofs.Math.ListN.{get_or}
use Rattle.table.specs.Table.{no_location}
use Rattle.table.proofs.columns.column.Given as goal

abbrev pub invariant-loop-v : goal.invariant-loop-v
invariant-loop-v g l =
    (length l.column ≡ 128)
    × ((u : ℕ) → u < l.v → goal.F-post g l.gives (get_or l.table.location u no_location) (get_or l.column u l.fn.first))
