pub mod Index
pub mod Regions
pub mod Strips
pub mod Tests
