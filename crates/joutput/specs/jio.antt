pub mod ShelfFiles
pub mod LineParts
pub mod MemoryDevices
pub mod PartialOutput
pub mod TextOutput
