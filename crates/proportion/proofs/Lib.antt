pub mod BelowZero
pub mod Scaling
pub mod Line
