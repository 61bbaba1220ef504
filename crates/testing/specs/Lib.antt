-- The definitions of a tally, and of a record as the vectors give it.
pub mod Records
pub mod Tally
