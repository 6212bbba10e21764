-- The laws behind the questions, in reading order.
pub mod InOrder
pub mod Unique
