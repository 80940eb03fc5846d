pub mod Causes
pub mod Keys
pub mod Ops
pub mod Draft
pub mod Prelude
pub mod Reading
pub mod ErrorText
