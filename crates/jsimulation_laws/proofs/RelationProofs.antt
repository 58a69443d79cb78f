pub mod ExpansionExamples
pub mod ExpansionLengths
pub mod References
pub mod StepExamples
