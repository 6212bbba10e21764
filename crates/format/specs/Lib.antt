-- The bytes of a record, then the tests at one field.
pub mod Format
pub mod Tests
