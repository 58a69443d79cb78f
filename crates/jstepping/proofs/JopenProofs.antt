pub mod DistinctTexts
pub mod StaticLists
pub mod StaticRows
pub mod StringLoads
pub mod StringCreation
pub mod InitialHeap
pub mod InitialStatics
