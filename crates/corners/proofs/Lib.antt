-- Laws of columns, in reading order.
pub mod Closing
pub mod Resting
pub mod Making
