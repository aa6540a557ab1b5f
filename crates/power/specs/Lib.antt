pub mod Power
pub mod Choice
