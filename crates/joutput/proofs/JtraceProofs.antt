pub mod ItemCounts
pub mod CheckLineParts
