pub mod Words
pub mod OpTexts
pub mod Pairs
pub mod Ranges
pub mod Kept
pub mod States
