pub mod Computed
pub mod Places
pub mod Tails
pub mod Steps
pub mod Local
pub mod Checks
