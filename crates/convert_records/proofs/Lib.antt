pub mod Computed
pub mod Next
pub mod Turns
