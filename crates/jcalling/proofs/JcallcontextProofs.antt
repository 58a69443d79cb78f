pub mod CallAnswers
pub mod ContextRequests
pub mod CallOutcomes
