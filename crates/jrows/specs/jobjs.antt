pub mod ReferenceBranches
pub mod FieldCells
pub mod NewObjects
pub mod EntryOperands
pub mod RowFrames
pub mod StoredReferences
