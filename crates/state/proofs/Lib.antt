pub mod State
pub mod Shapes
pub mod ProofTable
pub mod Pins
