-- The theorems on the wire format, and what they lean on.
pub mod Lists
pub mod Frames
pub mod Fronts
pub mod RoundTrip
