-- The definitions of demand 3: start at Claim.
pub mod Claim
pub mod Instances
pub mod Events
pub mod Promised
pub mod Saying
pub mod Cuts
