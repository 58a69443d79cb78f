pub mod ThreadFrames
pub mod StepOutcomes
pub mod IntermediateMachines
pub mod RaisedExceptions
pub mod ReadyMachines
