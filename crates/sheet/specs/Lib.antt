pub mod Sheet
pub mod Structure
pub mod Index
