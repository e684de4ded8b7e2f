-- What holds of every call of a head, and document 01's cases 1 to 12 as one table.
pub mod Statements
pub mod Cases
