pub mod Modified
pub mod Texts
