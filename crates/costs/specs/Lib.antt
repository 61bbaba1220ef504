-- The theorem on what a recovery costs.
pub mod Costs
