-- Answers as small numbers.
pub mod Codes
