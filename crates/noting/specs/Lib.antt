-- What the bench keeps and prints of a step (document 02, Item 1).
pub mod Noting
