pub mod InstructionSteps
pub mod RowSimulation
pub mod CallSteps
pub mod ObjectPreservation
pub mod RowMeanings
pub mod PoolNumbers
pub mod RowCompletion
pub mod RowExceptions
