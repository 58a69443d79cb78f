pub mod ProgressProofs
pub mod ProgramProofs
pub mod TypedProofs
pub mod LibraryProofs
