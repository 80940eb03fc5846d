pub mod States
pub mod Table
pub mod TableLaws
