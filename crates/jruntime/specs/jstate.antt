pub mod ArrayNumbers
pub mod ObjectCells
pub mod FrameLists
pub mod ClassNumbers
pub mod HeapMeanings
pub mod HeapMeaningLaws
