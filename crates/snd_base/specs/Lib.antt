pub mod Errors
pub mod PlaceLaws
pub mod Places
pub mod Relations
