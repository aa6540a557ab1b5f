pub mod Entropy
