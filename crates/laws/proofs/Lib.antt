-- Laws of tests and of parts of a slice; then those of the definitions in specs/, under the same names.
pub mod Test
pub mod Cases
pub mod Parts
pub mod Sum
pub mod Minimum
pub mod First
pub mod Best
pub mod Climb
pub mod Up
pub mod Bits
