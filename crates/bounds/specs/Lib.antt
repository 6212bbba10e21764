-- What the questions for bounds answer, and the flags that ask for a queue.
pub mod Questions
pub mod Flagged
pub mod Answered
