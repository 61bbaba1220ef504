-- The laws of the answers as numbers.
pub mod Numbers
