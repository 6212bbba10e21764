-- Refusals in order, columns and tables, then the answers.
pub mod Refused
pub mod Agreeing
pub mod Answered
pub mod Unique
