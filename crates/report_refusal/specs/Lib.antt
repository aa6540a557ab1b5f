pub mod Refusal
pub mod Begun
