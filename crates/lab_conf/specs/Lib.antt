pub mod Described
pub mod DescribedLaws
