pub mod StepCorrespondence
pub mod PassRuns
pub mod ComposedSimulation
pub mod SilentLead
pub mod RunProgress
pub mod MappedCounts
