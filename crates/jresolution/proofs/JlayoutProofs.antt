pub mod FieldKinds
pub mod Lists
pub mod FieldPlaces
pub mod SlotContents
pub mod Walks
