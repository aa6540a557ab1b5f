pub mod Near
pub mod Tables
pub mod Kelvin
pub mod Pins
