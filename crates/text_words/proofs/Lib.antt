pub mod Tests
pub mod Cuts
pub mod Digits
pub mod Within
pub mod LineWords
pub mod PlainLines
pub mod Decimals
