-- What a table means, the rules that it is judged by, the widths of its numbers, and its columns.
pub mod Table
pub mod Rules
pub mod Reasons
pub mod Ranged
pub mod Columns
