-- Instances of demand 3, and of the theorems beside it.
pub mod Table
pub mod Foreign
pub mod Counted
pub mod Costs
