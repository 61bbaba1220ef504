-- The laws of refusals, lengths, settings, records and frames as numbers.
pub mod Numbers
