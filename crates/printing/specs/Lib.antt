-- What the bench prints (document 02, Item 1).
pub mod Texts
