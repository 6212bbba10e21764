-- What the proofs of the functions cite.
pub mod Held
pub mod Made
