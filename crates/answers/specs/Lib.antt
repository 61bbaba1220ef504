-- The definitions of the answers as numbers.
pub mod Stepping
