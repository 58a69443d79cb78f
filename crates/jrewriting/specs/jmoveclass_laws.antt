pub mod MovedFiles
pub mod FrameClasses
