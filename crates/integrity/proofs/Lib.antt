-- The laws of the checks.
pub mod Steps
pub mod ByTable
