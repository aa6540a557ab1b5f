pub mod Perfect
