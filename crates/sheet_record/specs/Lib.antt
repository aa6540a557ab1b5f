pub mod Layout
pub mod Front
