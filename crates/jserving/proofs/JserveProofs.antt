pub mod CallOperands
pub mod ReferenceTypes
pub mod OperandCounts
pub mod FieldOperands
pub mod ArrayStores
pub mod ValueTypes
pub mod FittingOperands
