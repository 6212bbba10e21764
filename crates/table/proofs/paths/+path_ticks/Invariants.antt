-- `table::paths::path_ticks` meets its contract, by the two laws of a path's sum. It ends because a parent's number is below its child's.
-- Assumes nothing.
use Rattle.table.proofs.paths.+path_ticks.Given as goal

abbrev pub decreases-path_ticks : goal.decreases-path_ticks
decreases-path_ticks l = l.v
