-- What a filling tells.
pub mod Supply
