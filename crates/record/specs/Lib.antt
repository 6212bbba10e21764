-- What reading and the field question answer.
pub mod Reading
pub mod Field
