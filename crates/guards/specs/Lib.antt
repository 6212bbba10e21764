-- What the guards of a location's children hold.
pub mod Children
pub mod Lent
