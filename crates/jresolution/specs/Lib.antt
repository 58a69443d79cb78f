pub mod jprogram
pub mod jlayout
pub mod juses
pub mod ProofNames
