-- What a filling tells of every window.
pub mod Supply
