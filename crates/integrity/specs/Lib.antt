-- The definition of the two checks.
pub mod Fcs
pub mod Inside
