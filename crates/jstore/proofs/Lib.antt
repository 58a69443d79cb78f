pub mod Binds
pub mod MadeFiles
mod MadePaths
pub mod Names
pub mod StoredFiles
mod Units
pub mod WrittenUnits
