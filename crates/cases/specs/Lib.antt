-- What the data says.
pub mod Questions
