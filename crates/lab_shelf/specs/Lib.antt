pub mod Files
pub mod Changes
pub mod Counts
pub mod States
