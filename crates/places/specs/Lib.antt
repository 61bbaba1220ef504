-- The theorems on places in refusals.
pub mod Before
pub mod First
