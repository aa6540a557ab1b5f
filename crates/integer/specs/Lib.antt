pub mod Z
pub mod Laws
pub mod Floor
pub mod Ring
pub mod Tests
