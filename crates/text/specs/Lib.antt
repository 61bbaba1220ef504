-- The definitions of text.
pub mod Text
pub mod Pieces
pub mod Inside
