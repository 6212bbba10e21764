-- Loops that write one entry a turn, the two passes, and points one after the other.
pub mod Between
pub mod Settling
pub mod Lowering
