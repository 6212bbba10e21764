-- What the proofs of the functions cite: where a location is placed, the lowest place, columns and tables; then the theorem on the answer.
pub mod Placed
pub mod Lowest
pub mod Agree
pub mod Unique
