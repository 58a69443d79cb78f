pub mod ValueTypes
pub mod OperandChecks
pub mod CallOperandChecks
pub mod StoreTargets
