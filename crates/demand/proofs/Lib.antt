-- The laws behind the functions, in reading order.
pub mod NextDeadlines
pub mod OwnTasks
pub mod Blocks
