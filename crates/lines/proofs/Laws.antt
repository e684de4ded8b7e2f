-- The laws, one file a subject.
pub mod Hex
pub mod Frame
pub mod Reading
pub mod Writing
pub mod HexBack
pub mod FrameBack
pub mod Trip
pub mod Walk
pub mod Alike
pub mod Parts
pub mod Theorems
pub mod Answers
