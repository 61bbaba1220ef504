-- The theorem on the counts.
pub mod Counting
