-- The definitions of a listing.
pub mod Report
pub mod Inside
