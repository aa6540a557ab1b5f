pub mod Input
pub mod Prefix
