pub mod CellLaws
pub mod ObjectHeaders
pub mod ObjectLookups
pub mod ObjectBlocks
pub mod RawLaws
