pub mod Floors
pub mod Machine
pub mod Splits
pub mod Pins
