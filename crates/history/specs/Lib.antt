-- Demand 3 of document 01: what a history is, and what holds of every one.
pub mod Setting
pub mod Statement
