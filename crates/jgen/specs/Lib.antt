pub mod GeneratedClasses
pub mod Draws
pub mod GeneratedFiles
pub mod ClassFileItems
pub mod MethodParts
pub mod ProofNames
