-- What the theorems on the wire format suppose, and what they say of a record that was encoded.
pub mod Typed
pub mod ReadBack
