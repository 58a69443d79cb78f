pub mod StepOutcomes
pub mod RunSegments
