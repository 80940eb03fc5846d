pub mod Moments
pub mod Prelude
pub mod RunLaws
pub mod Runs
pub mod Steps
