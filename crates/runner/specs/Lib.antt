-- The state, one step, and many steps.
pub mod State
pub mod Step
pub mod History
pub mod Worked
