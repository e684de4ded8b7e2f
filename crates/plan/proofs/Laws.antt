-- The laws, one file a subject.
pub mod Stores
pub mod Marks
pub mod Marked
pub mod Adoption
pub mod Clearing
pub mod Branches
pub mod Weighing
pub mod Attempt
pub mod After
pub mod Decide
pub mod Form
pub mod Ends
