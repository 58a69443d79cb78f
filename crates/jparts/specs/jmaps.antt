pub mod StackMapFormat
pub mod ExpandedFrames
pub mod StackMapLaws
pub mod FrameExpansion
