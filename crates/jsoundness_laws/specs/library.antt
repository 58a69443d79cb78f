pub mod LibraryArguments
pub mod YieldLaws
pub mod LibraryResults
