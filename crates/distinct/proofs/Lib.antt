pub mod Pairs
pub mod Store
pub mod Walk
pub mod Table
