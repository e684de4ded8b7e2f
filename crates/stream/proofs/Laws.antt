-- The laws, one file a subject.
pub mod Shown
pub mod Walk
pub mod Parts
