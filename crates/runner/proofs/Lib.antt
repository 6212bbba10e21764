-- What the proofs of the functions cite: rows of entries, passes over them, whom a tick serves, where a value leads.
pub mod Passes
pub mod Leads
pub mod Rounds
pub mod Agrees
pub mod Refusals
-- The answers are settled by the contracts, and states stay lawful.
pub mod Unique
pub mod Keeps
-- Many steps and the theory: steps follow it, all of it is reached by steps, and the grants sum to the steps.
pub mod Same
pub mod Follows
pub mod Grants
pub mod Reaches
-- The worked steps of the rules.
pub mod Worked
