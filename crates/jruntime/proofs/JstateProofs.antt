pub mod BuilderPieces
pub mod CellCounts
pub mod FrameLists
pub mod ClassNumbers
pub mod ArrayTypeNumbers
pub mod HeapAbstraction
pub mod CellWrites
