pub mod Temperature
pub mod Claim
pub mod Property
