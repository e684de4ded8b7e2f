-- The laws, one file a subject.
pub mod Layout
pub mod Words
pub mod Whole
pub mod Fewer
pub mod Fresh
pub mod Outcome
pub mod Start
