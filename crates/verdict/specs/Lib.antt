-- What the questions answer.
pub mod Questions
