-- The calls of a head (document 01, "The calls", "Numbers a refused call returns"): the session, when it fits a record, the first refusal of each call, and
-- each call as a function of its inputs.
pub mod Session
pub mod Fits
pub mod Refusals
pub mod Calls
