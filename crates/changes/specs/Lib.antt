-- A lent record and its pen.
pub mod Lent
