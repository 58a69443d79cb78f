pub mod Folders
pub mod GeneratedShelves
pub mod FileWrites
