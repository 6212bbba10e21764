-- What the search for a wait finds.
pub mod Reaches
