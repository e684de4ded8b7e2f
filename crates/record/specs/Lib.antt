-- The record of document 01: its layout, when it is whole, and the call that makes it.
pub mod Layout
pub mod Replacing
pub mod Whole
pub mod Outcome
pub mod Start
