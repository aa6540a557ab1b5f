pub mod Near
pub mod Sizes
pub mod Claim
pub mod Sound
pub mod Standard
pub mod Pins
