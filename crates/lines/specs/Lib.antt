-- Document 01, "Lines": characters, frames, what the reader answers, what the writers write, the lines of a text, and what is proved of them together.
pub mod Hex
pub mod Frame
pub mod Read
pub mod Reading
pub mod Writing
pub mod Walk
pub mod Theorems
