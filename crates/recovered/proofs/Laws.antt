-- The laws, one file a subject.
pub mod Steps
