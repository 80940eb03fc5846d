pub mod Direction
pub mod RefusalLaws
pub mod Setup
pub mod Status
