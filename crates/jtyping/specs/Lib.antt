pub mod jrule
pub mod jwelltyped
pub mod ProofNames
