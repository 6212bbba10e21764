-- The proofs, in reading order.
-- Bounds: from the definitions alone; then by cycles, and for the runs of a tree.
pub mod Grants
pub mod Bounds
pub mod Paths
pub mod Cycles
pub mod Runs
-- Points, corners and the filling.
pub mod Above
pub mod Period
pub mod Edges
pub mod Points
pub mod Rest
pub mod Corners
pub mod Filling
pub mod Filled
pub mod Wait
-- Guards, and the walk by values.
pub mod Sweep
pub mod Guards
pub mod Walk
-- Demand, jobs, and both directions of demand 3.
pub mod Demand
pub mod Multiple
pub mod Verdict
pub mod Backlog
pub mod Gaps
pub mod Jobs
pub mod Lawful
pub mod NeverLate
pub mod SomeLate
pub mod Promise
-- The worked list of the rules.
pub mod Worked
