pub mod Bicubic
pub mod Exact
