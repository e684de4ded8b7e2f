-- Where the bench stands, and what the next event line asks of a head (document 02, Item 1).
pub mod Asking
