pub mod Named
pub mod Output
pub mod Cases
pub mod Allowed
pub mod Refusals
pub mod Whole
pub mod Alike
