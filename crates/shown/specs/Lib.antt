-- What the program `frames` prints.
pub mod Shown
