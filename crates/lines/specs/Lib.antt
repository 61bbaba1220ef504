-- The definition of a listing's lines.
pub mod Lines
