pub mod MemberDeclarations
pub mod PoolTexts
pub mod MemberSets
pub mod FinalOverrides
