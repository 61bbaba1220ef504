-- An opening and the steps of an append as numbers.
pub mod Appending
