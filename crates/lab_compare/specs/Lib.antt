pub mod Checking
pub mod Prelude
