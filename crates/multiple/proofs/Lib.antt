-- The laws behind the function.
pub mod Multiples
