pub mod Whole
pub mod Placed
