-- The laws behind the search, in reading order.
pub mod Answers
pub mod Answered
pub mod Swept
