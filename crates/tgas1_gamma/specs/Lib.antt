pub mod Gamma
