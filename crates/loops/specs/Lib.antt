-- What a loop or a chain over 0, 1, .., n - 1 computes. Those of the project are proved against these.
pub mod Below
