-- Small definitions on numbers and tests, in reading order.
pub mod Test
pub mod Sum
pub mod Minimum
pub mod Found
pub mod Climb
pub mod Up
pub mod Bits
