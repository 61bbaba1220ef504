-- What reading an input promises.
pub mod Stdio
