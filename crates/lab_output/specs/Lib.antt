pub mod Files
pub mod FileLaws
pub mod Going
pub mod GoingLaws
pub mod Prelude
pub mod Text
pub mod Laws
