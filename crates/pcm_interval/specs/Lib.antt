pub mod Arithmetic
pub mod ArithmeticLaws
pub mod Intervals
pub mod IntervalLaws
pub mod Masks
pub mod MaskLaws
pub mod Prelude
