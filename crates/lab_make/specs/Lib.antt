pub mod Files
pub mod Prelude
pub mod Workload
pub mod Lines
pub mod Script
pub mod Summary
pub mod Stored
