-- The theorem on bytes that something else has written.
pub mod Steps
pub mod Foreign
