-- Jobs as the entries of a state.
pub mod Entries
