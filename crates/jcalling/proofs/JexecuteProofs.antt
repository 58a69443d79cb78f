pub mod FrameSteps
pub mod RowOutcomes
pub mod StepOutcomes
pub mod InstructionFetch
pub mod ConstantLoads
pub mod MachineSteps
pub mod ReferenceSteps
pub mod QuickSteps
