pub mod Play
pub mod Attempts
pub mod Eleven
pub mod Row
pub mod Needed
