-- The laws, one file a subject.
pub mod Determined
pub mod Kept
pub mod Every
pub mod Cases
