-- What the proofs of the functions cite.
pub mod Ranged
pub mod Flags
pub mod Copied
pub mod Leaves
pub mod Reasons
pub mod Ends
-- The judge answers 0 exactly where the table is well formed, and by what counts alone.
pub mod Unbroken
pub mod Sentences
pub mod WellFormed
pub mod Same
pub mod Widths
pub mod Known
