pub mod DueLaws
pub mod FillLaws
pub mod PlayLaws
pub mod Plays
