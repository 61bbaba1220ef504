-- The law of reading.
pub mod Reading
