mod CallLaws
pub mod CameTo
pub mod Filling
pub mod Getting
pub mod Loading
pub mod Reading
mod Refusing
pub mod Stepping
pub mod Through
mod Waiting
pub mod Explaining
