-- Demand 3 over the runner's own steps, and what a verdict depends on.
pub mod Prefix
pub mod Meets
pub mod Short
pub mod Verdicts
