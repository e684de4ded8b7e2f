-- What a head of the bench is asked to do (document 02, Item 1), and what is printed of it.
pub mod Told
