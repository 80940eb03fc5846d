pub mod Input
pub mod Prelude
pub mod Read
pub mod Plug
pub mod Converting
pub mod Sound
