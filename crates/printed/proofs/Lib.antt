pub mod Views
pub mod Listed
pub mod Follows
pub mod Acts
pub mod Starts
pub mod Asked
pub mod Lines
pub mod Theorem
mod Examples
