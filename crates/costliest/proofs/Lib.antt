-- The laws of the region whose recovery makes the most reads.
pub mod Region
pub mod Laying
