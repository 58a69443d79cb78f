pub mod jbase
pub mod jformat
pub mod jtext
pub mod ProofNames
