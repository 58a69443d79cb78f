pub mod ObjectEquivalence
pub mod UserClassCells
pub mod ArrayTypeNumbers
pub mod CellLayout
