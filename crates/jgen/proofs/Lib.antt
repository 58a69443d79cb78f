pub mod DrawnKinds
pub mod FileLists
pub mod MethodParts
pub mod PoolAdditions
pub mod Rooms
pub mod TextConcatenation
