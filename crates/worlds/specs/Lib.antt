-- The bench (document 02, Item 1): what it knows, what an event line does, and how the code holds it.
pub mod Bench
pub mod Desk
pub mod Parts
