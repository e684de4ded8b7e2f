-- The laws, one file a subject.
pub mod Put
pub mod Script
pub mod Program
pub mod Changes
