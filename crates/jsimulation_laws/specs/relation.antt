pub mod InstructionExpansion
pub mod ProgramRelation
pub mod StateRelation
pub mod StepCounts
