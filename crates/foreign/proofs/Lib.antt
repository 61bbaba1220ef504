-- The theorem on bytes that something else has written, and what a list keeps.
pub mod Along
pub mod Stays
