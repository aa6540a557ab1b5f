pub mod Numbered
pub mod Pages
