-- What the function hands back.
pub mod Limited
