pub mod CallLaws
pub mod MethodCalls
pub mod FrameMarks
pub mod Readiness
pub mod Returns
pub mod MessageThrows
pub mod Throws
pub mod Unwinds
