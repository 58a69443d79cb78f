pub mod BodyFormats
pub mod UnionFormats
pub mod Format
pub mod RepeatedReads
pub mod FaultOffsets
pub mod StatefulFormats
pub mod TagTables
