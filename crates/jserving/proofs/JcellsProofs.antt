pub mod ListGrowth
pub mod ShapePreservation
pub mod ObjectCells
pub mod ArrayTypeNumbers
