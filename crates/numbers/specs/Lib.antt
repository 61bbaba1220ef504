-- The definitions of refusals, lengths, settings, records and frames as numbers.
pub mod Refusing
pub mod Reading
