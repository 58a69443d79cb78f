pub mod IndexedInstructions
pub mod EntryTextCache
pub mod InstructionMeanings
pub mod InternedInstructions
pub mod PoolTables
pub mod DescriptorTypes
pub mod InternedTypes
pub mod EntryUses
