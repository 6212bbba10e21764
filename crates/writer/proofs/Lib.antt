-- Laws of writing, in reading order.
pub mod Growing
pub mod Written
pub mod Unique
