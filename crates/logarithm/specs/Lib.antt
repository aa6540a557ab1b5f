pub mod Log
pub mod Choice
