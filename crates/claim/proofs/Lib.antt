-- The laws of demand 3, and the theorem.
pub mod Bits
pub mod Tears
pub mod Calm
pub mod Looks
pub mod Said
pub mod Passing
pub mod Paged
pub mod Appends
pub mod Invariant
pub mod Growth
pub mod Playing
pub mod Reading
pub mod Demand3
pub mod Erased
pub mod Consequences
pub mod Instances
