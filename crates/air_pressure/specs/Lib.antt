pub mod Pressure
pub mod Claim
pub mod Property
