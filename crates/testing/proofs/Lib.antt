-- The laws of the parts of bytes.
pub mod Zeros
