pub mod CallRowOutcomes
pub mod LibraryRuns
