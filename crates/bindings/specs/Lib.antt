pub mod Answers
pub mod AnswerLaws
pub mod Bound
pub mod RisingLaws
