-- What the verdict answers.
pub mod Answers
pub mod Answered
