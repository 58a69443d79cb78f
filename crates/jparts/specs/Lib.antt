pub mod jpool
pub mod jmaps
pub mod jcode
pub mod ProofNames
