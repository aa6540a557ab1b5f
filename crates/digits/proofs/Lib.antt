pub mod Long
pub mod Product
