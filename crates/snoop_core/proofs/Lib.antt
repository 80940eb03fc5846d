pub mod Finding
pub mod Getting
pub mod Storing
