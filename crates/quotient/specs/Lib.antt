pub mod Range
pub mod Mul
