pub mod State
pub mod ProofTable
