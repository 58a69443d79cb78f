pub mod jnames
pub mod jops
pub mod ProofNames
