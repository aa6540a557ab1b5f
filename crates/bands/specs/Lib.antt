pub mod Units
pub mod Bands
pub mod Region
