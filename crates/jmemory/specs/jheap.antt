pub mod Heaps
pub mod ObjectLayout
pub mod RawValues
