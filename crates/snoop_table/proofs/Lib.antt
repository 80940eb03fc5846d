pub mod Cuts
pub mod Fetching
pub mod Keeps
pub mod Opens
pub mod Reading
pub mod Writing
