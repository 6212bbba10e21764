-- Laws of the definitions in specs/, in reading order.
pub mod Pieces
pub mod Places
pub mod Fields
pub mod Length
pub mod Question
pub mod Answered
-- Both round trips.
pub mod Payloads
pub mod WrittenReads
pub mod ReadWrites
pub mod Accepted
-- What the contracts settle.
pub mod Unique
