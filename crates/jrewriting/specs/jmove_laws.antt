pub mod Branches
pub mod Distances
pub mod FramePlaces
pub mod InstructionNumbers
pub mod PlaceOrder
pub mod HandlerRanges
pub mod CodeSizes
pub mod SpelledCode
