pub mod Prelude
pub mod Requests
pub mod Text
pub mod Ranges
pub mod Causes
pub mod Words
pub mod Answers
pub mod Reading
