-- What becomes of a slice's entries.
pub mod Changes
