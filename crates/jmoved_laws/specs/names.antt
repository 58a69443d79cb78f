pub mod ResolvedCalls
pub mod ShadowedMethods
pub mod MovedLookUps
pub mod OpeningLaws
pub mod SelectionLaws
pub mod WorldLaws
