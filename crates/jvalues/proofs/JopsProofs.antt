pub mod OperationKinds
pub mod StackMoveFronts
pub mod Wraps
