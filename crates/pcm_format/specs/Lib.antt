pub mod PlaceLaws
pub mod Places
pub mod Samples
