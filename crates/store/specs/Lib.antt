-- Stores under a budget (document 01, "Stores and cuts"): one store, a script of stores, a program of steps that read the record, and changes.
pub mod Desk
pub mod Program
pub mod Changes
