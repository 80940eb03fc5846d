pub mod Mixing
pub mod Adds
pub mod Words
pub mod Reading
