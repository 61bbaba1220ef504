-- The theorem on the counts.
pub mod Counted
