-- What the bench prints of formed sessions (document 02, Item 1): the history that the event lines are, and what is proved of it.
pub mod Printed
