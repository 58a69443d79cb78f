pub mod StepAgreement
pub mod GuardQuestions
pub mod EngineRuns
pub mod InitialStates
pub mod EngineStarts
