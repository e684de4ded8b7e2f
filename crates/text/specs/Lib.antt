-- Numbers as text, and a lent buffer that is filled.
pub mod Text
pub mod Printer
