pub mod Fits
pub mod Refusals
pub mod Calls
pub mod Hearing
pub mod Writing
