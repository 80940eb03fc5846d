pub mod Prelude
pub mod Word
pub mod Lexing
pub mod Table
