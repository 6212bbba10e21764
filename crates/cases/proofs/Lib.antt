-- How std reads the data.
pub mod Numbers
pub mod Parts
