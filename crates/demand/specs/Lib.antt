-- What the functions hand back.
pub mod Listed
pub mod Ahead
