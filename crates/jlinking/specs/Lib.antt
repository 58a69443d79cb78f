pub mod jmembers
pub mod jreferring
pub mod jlink
pub mod ProofNames
