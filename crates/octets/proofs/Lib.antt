pub mod Stores
pub mod Room
pub mod Held
pub mod Told
pub mod Numbers
