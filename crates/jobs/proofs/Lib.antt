-- Rows of entries, then whom a tick serves.
pub mod Rows
pub mod Service
