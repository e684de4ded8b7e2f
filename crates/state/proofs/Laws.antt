-- The laws, one file a subject.
pub mod Kept
pub mod Fewer
pub mod Numbers
