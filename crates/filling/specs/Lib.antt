-- Which points lower the slice.
pub mod Sets
