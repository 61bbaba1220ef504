-- The instances of demand 3, and of the theorems beside it, computed.
pub mod Tried
pub mod Steps
pub mod Foreign
pub mod Counted
pub mod Costs
