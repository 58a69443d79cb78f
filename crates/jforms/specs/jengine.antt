pub mod AccessCalls
pub mod ExecutedSteps
pub mod EnginePositions
pub mod RunTallies
