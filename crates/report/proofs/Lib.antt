-- The laws of a listing.
pub mod Reporting
pub mod Covered
pub mod Inputs
pub mod Room
pub mod Beginnings
pub mod Endings
