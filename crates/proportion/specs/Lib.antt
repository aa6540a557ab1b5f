pub mod Reach
pub mod Straight
