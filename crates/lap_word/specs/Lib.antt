pub mod Clamp
pub mod Position
pub mod Word
