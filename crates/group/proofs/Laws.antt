-- The laws: a file for each file of specs/, and one for last formed.
pub mod Heads
pub mod Words
pub mod Formed
pub mod Answers
pub mod Quorum
pub mod Fresh
pub mod Cases
