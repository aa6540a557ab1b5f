pub mod Ranges
pub mod Written
pub mod RoundTrip
pub mod OneSpelling
pub mod Pins
