-- The laws, one file a subject.
pub mod Rising
pub mod Telling
pub mod Places
