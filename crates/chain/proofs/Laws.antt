-- The laws, one file a subject.
pub mod Numbers
pub mod Runs
pub mod Grows
pub mod Attempts
pub mod Formed
pub mod Kept
pub mod Chain
pub mod Listed
pub mod Reach
pub mod Words
pub mod World
pub mod Quorum
pub mod Safety
pub mod Calls
pub mod Counted
