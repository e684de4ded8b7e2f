-- A head of the bench (document 02, Item 1), and what it does on an event.
pub mod Seat
pub mod Played
