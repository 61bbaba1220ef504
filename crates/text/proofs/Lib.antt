-- The laws of text.
pub mod Puts
pub mod Digits
pub mod Places
pub mod Numbers
pub mod ReadBack
pub mod Short
