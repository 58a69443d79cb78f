pub mod PlainAnswers
pub mod ContextTableGrowth
pub mod PassingSide
