pub mod Computed
pub mod Version
