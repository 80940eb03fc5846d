pub mod Params
pub mod Grammar
pub mod Prelude
pub mod Reading
pub mod Values
pub mod Answers
pub mod Answered
