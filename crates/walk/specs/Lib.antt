pub mod Walk
pub mod Parts
pub mod Allowed
pub mod Laws
