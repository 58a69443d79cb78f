pub mod InitialHeaps
pub mod InitialMachines
pub mod StaticRows
pub mod OpeningTexts
