pub mod Joined
pub mod Blocks
pub mod Made
pub mod Law
pub mod Pins
