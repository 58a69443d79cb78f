pub mod ArrayAccesses
pub mod ArrayOperands
pub mod StackMoves
pub mod RowOutcomes
