pub mod AtPort
pub mod AtSnoopPort
pub mod Course
pub mod CourseLaws
pub mod Gives
pub mod Stops
