pub mod Frames
pub mod HighParts
pub mod Ranges
