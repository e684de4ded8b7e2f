-- The first refusal of each call (document 01, "Numbers a refused call returns").
pub mod Refusals
