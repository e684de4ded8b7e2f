-- What one head that acts does to the table, and what the bench holds.
pub mod Acts
pub mod Held
