pub mod Faults
pub mod Record
pub mod Behind
pub mod Kept
pub mod Grown
pub mod Computed
pub mod Exactly
