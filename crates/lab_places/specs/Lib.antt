pub mod Held
pub mod HeldLaws
pub mod Holdings
pub mod Laid
pub mod OwnedLaws
pub mod Prelude
pub mod StageLaws
