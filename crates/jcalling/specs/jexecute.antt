pub mod FrameSteps
pub mod ThreadSteps
pub mod FastSteps
