pub mod Abstraction
pub mod Invariant
pub mod Calls
pub mod Theorem
pub mod Signed
pub mod Counted
pub mod Recovers
