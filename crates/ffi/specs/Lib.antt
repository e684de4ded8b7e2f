-- What the exported functions answer with, in numbers.
pub mod LineRead
pub mod Ends
