pub mod Dimensions
pub mod SubtypeLaws
pub mod FrameFits
