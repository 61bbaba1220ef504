-- The theorem on what a recovery costs.
pub mod Bounds
pub mod Looked
pub mod Walked
pub mod Costs
