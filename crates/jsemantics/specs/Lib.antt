pub mod jmachine
pub mod jrules
pub mod ProofNames
