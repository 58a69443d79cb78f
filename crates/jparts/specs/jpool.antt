pub mod EntryLayouts
pub mod Descriptors
pub mod PoolEntries
pub mod ClassNames
pub mod FieldTypes
pub mod ConstantPools
pub mod PoolTextUses
