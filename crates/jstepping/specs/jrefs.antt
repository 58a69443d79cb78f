pub mod NamedEntries
pub mod ReferenceRows
pub mod RowInvariance
