pub mod SnapshotEntries
pub mod SnapshotPath
pub mod WalkEnds
pub mod SnapshotMeanings
