-- The definition of the region whose recovery makes the most reads.
pub mod Written
