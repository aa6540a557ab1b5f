pub mod Gammas
