-- When a session fits a record (document 01, "The calls"), over the parts of a session.
pub mod Fits
