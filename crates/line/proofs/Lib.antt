pub mod Names
pub mod Pins
pub mod Short
