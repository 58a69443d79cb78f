pub mod AroundPart
pub mod Files
pub mod PartialLines
pub mod WrittenTexts
