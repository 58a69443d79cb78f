pub mod CheckOutcomes
pub mod CheckAnswers
pub mod InvariantPreservation
pub mod Operands
