-- What the two functions that store a decide and a form make of a record.
pub mod Decides
