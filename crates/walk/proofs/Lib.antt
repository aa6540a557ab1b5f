pub mod Steps
pub mod Undisturbed
pub mod Covers
pub mod Later
pub mod Pages
pub mod Computed
