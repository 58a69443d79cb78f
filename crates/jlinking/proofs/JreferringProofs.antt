pub mod MethodCounts
pub mod InstantiableClasses
pub mod IndexedReferences
