pub mod Quantities
pub mod Held
pub mod Join
pub mod Choices
pub mod Carried
pub mod Places
pub mod Ready
pub mod Property
