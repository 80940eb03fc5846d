pub mod FirstWord
pub mod Mixing
pub mod Pieces
pub mod Prelude
