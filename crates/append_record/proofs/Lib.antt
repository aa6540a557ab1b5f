pub mod Stored
pub mod Lengths
