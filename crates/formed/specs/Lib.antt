-- The formed sessions (document 02, Item 1).
pub mod Formed
