pub mod Names
pub mod Script
pub mod Limits
pub mod Rows
