-- A job as the entry of a state.
pub mod Entry
