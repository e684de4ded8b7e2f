-- How the input of the program `frames` is taken in parts.
pub mod Parts
