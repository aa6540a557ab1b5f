pub mod Near
pub mod Size
pub mod Ranges
pub mod Constant
