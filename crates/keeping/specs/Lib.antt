-- What a head of the bench keeps (document 02, Item 1): its last four sent lines, and a waiting cut.
pub mod Keeping
