-- Document 01's group: sets of heads, session words, the quorum test, the answers, the fresh record, and cases 1 to 10.
pub mod Heads
pub mod Words
pub mod Answers
pub mod Quorum
pub mod Fresh
pub mod Cases
