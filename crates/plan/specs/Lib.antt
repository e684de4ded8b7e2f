-- Decide's a to d and form (document 01, "The calls"), over the record's words r, the members m of the view and the held states.
pub mod Members
pub mod Marks
pub mod Adoption
pub mod Clearing
pub mod Attempt
pub mod Decide
pub mod Form
pub mod Statements
