pub mod LibraryOutcomes
pub mod LibraryPreservation
pub mod RowCompletion
