pub mod Weight
pub mod Choice
