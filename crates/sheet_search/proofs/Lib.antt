pub mod Locate
pub mod Searching
pub mod Named
pub mod Pages
pub mod Remarks
pub mod Pins
