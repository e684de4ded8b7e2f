-- Recovery of a cut record (document 01, "Stores and cuts"), and the kinds of change that a call's stores make.
pub mod Recover
pub mod Changes
pub mod Statements
pub mod Cases
