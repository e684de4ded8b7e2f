-- The laws, one file a subject.
pub mod Line
pub mod Turn
pub mod Parts
