-- The laws, one file a subject.
pub mod Greatest
pub mod Changed
pub mod Phases
pub mod Fields
pub mod Mended
pub mod Again
pub mod Still
pub mod Cut
pub mod Follows
pub mod Small
pub mod Adopt
pub mod Call
pub mod Sounds
pub mod Cases
