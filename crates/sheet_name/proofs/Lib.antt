pub mod Same
pub mod Names
