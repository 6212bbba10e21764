-- What writing a table answers and leaves.
pub mod Writing
