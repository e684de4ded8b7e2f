-- The views announced (document 02, Item 1).
pub mod Views
