pub mod Add
pub mod Laws
pub mod Answer
