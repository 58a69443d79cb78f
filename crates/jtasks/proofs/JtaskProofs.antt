pub mod Classes
pub mod Mains
pub mod StageOutcomes
pub mod Sides
pub mod Sources
