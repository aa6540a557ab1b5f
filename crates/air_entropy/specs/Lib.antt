pub mod Entropy
pub mod Claim
pub mod Property
