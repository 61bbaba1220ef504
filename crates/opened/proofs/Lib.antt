-- The laws of an opening and an append as numbers.
pub mod Numbers
