-- Laws of walks over columns, in reading order.
pub mod Walking
pub mod Crossing
pub mod Decided
