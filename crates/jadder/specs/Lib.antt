pub mod EntryInterning
pub mod ConstantNumbers
