-- The law behind the wait.
pub mod LongestWait
