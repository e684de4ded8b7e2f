-- What a state line carries, and line rules 4 to 7 over it.
pub mod Values
pub mod Rules
