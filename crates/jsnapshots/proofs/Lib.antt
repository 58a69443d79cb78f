pub mod MarkResolution
pub mod Meanings
pub mod Paths
