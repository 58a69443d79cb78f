pub mod InstructionForms
pub mod Instructions
pub mod Opcodes
pub mod OperandFormats
