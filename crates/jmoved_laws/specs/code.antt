pub mod MovedBodies
pub mod MovedMeanings
pub mod MovedPrograms
pub mod SlotCounts
