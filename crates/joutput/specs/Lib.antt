pub mod jio
pub mod jtally
pub mod jtrace
pub mod ProofNames
