-- What the words of the rules mean; this is what a reader has to believe.
pub mod Grants
pub mod Bounds
pub mod Tree
pub mod Guards
pub mod Task
pub mod Verdict
pub mod Job
pub mod Steps
pub mod Worked
-- How it is computed; proofs/ shows that each finds what the files above define.
pub mod Cycles
pub mod Points
pub mod Filling
pub mod Sweep
pub mod Search
