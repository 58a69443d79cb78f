pub mod ListStackLaws
pub mod ListStacks
pub mod ListStarts
