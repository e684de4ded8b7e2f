-- The program between two reads (document 02, Item 1).
pub mod Reading
