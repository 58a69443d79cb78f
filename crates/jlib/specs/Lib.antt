pub mod NamePrefixes
pub mod LibraryMembers
pub mod LibraryClasses
pub mod LibraryPlaces
