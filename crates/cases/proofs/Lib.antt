-- The starred cases of document 01, the numbers of its refusals, and how many reads a recovery has made.
pub mod Starred
pub mod Numbers
pub mod ReadsMade
