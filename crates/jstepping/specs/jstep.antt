pub mod RowSuccessors
pub mod InstructionRows
pub mod HeapOperands
pub mod StepRelation
