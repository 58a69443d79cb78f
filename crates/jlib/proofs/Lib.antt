pub mod NamePrefixes
pub mod LibraryLookup
pub mod ClassPlaces
