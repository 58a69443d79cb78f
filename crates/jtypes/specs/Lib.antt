pub mod DescriptorElements
pub mod Assignability
pub mod TypeFrames
pub mod ClassTrees
pub mod ProofNames
