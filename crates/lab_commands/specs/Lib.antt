pub mod Prelude
pub mod Words
pub mod Run
pub mod Top
pub mod Made
