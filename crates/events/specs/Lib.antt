-- The bench's events (document 02, Item 1).
pub mod Events
